-- What a sink took in several calls, one after the other.
use Rattle.std.proofs.Common.{◌≡◌, ℕ, ◌+◌, ◌<◌, ◌≤◌, List, [], ◌∷◌, ◌++◌, length, take, drop, get_or, Option, None, Some, Result, Ok, Err, IsErr, sym, ap, ◌∙◌, subst, append_assoc, append-nil, add-one, arith, length-append, take-append-drop}
use Rattle.std.proofs.lemmas.List.{length-take-le, take-append-le}
use Rattle.std.proofs.lemmas.Grind.{common_steps, flat_map-append}
use Rattle.std.proofs.Math.Seq.{take-suc, take-append_seam, take-append-add}
use Rattle.std.specs.Io.KnownBytes.{Appends}
use Rattle.std.specs.List.{flat_map}
use Rattle.pn_outside.specs.Taking.{Grew, Takes, TakesFront, Puts}

appends_nothing : (a : Option (List ℕ)) → Appends a a []
appends_nothing None = tt
appends_nothing (Some x) = sym (append-nil x)

appends_both : (a b c : Option (List ℕ)) (xs ys : List ℕ) → Appends a b xs → Appends b c ys → Appends a c (xs ++ ys)
appends_both None b c xs ys p q = tt
appends_both (Some x) None c xs ys p q = absurd p
appends_both (Some x) (Some y) None xs ys p q = absurd q
appends_both (Some x) (Some y) (Some z) xs ys p q = q ∙ ap (λ l. l ++ ys) p ∙ append_assoc x xs ys

grew_nothing : (a : Option ℕ) → Grew a a 0
grew_nothing None = tt
grew_nothing (Some k) = omega arith

grew_both : (a b c : Option ℕ) (m n : ℕ) → Grew a b m → Grew b c n → Grew a c (m + n)
grew_both None b c m n p q = tt
grew_both (Some x) None c m n p q = absurd p
grew_both (Some x) (Some y) None m n p q = absurd q
grew_both (Some x) (Some y) (Some z) m n p q = omega arith

-- one more item's text
pub flat_map_next : {A : Type 0} (text : A → List ℕ) (xs : List A) (i : ℕ) (d : A) → i < length xs
    → flat_map text (take (i + 1) xs) ≡ flat_map text (take i xs) ++ text (get_or xs i d)
flat_map_next text xs i d lt =
    let next : take (i + 1) xs ≡ take i xs ++ (get_or xs i d ∷ []) = rw add-one (take-suc xs i d lt) in
    ap (flat_map text) next ∙ flat_map-append text (take i xs) (get_or xs i d ∷ []) ∙ ap (λ l. flat_map text (take i xs) ++ l) (append-nil (text (get_or xs i d)))

not_err : (E : Type 0) (u : Unit {0}) → IsErr {E = E} (Ok u) → ⊥
not_err E u is = cc

module _ {S : Type 0} {taken : S → Option (List ℕ)} {number : S → Option ℕ} where
  -- a call that leaves the sink alone took nothing
  pub took_nothing : (s : S) → Takes taken number s s []
  took_nothing s = record { bytes = appends_nothing (taken s); count = grew_nothing (number s) }

  pub takes_both : (a b c : S) (xs ys : List ℕ) → Takes taken number a b xs → Takes taken number b c ys → Takes taken number a c (xs ++ ys)
  takes_both a b c xs ys p q = record {
    bytes = appends_both (taken a) (taken b) (taken c) xs ys p.bytes q.bytes;
    count = subst (Grew (number a) (number c)) (sym (length-append xs ys)) (grew_both (number a) (number b) (number c) (length xs) (length ys) p.count q.count);
  }

  -- all of the first text is a front of both
  pub front_all : (a b : S) (xs ys : List ℕ) → Takes taken number a b xs → TakesFront taken number a b (xs ++ ys)
  front_all a b xs ys p = record {
    size = length xs;
    within = omega (arith, length-append xs ys);
    takes = rw take-append_seam p;
  }

  -- a front of the first text is a front of both
  pub front_more : (a b : S) (xs ys : List ℕ) → TakesFront taken number a b xs → TakesFront taken number a b (xs ++ ys)
  front_more a b xs ys p = record {
    size = p.size;
    within = omega (arith, length-append xs ys, p.within);
    takes = let w = p.within in rw take-append-le p.takes;
  }

  -- all of the first text, and then a front of the second
  pub front_then : (a b c : S) (xs ys : List ℕ) → Takes taken number a b xs → TakesFront taken number b c ys → TakesFront taken number a c (xs ++ ys)
  front_then a b c xs ys p q = record {
    size = length xs + q.size;
    within = omega (arith, length-append xs ys, q.within);
    takes = rw take-append-add (takes_both a b c xs (take q.size ys) p q.takes);
  }

  -- after the first i bytes of a text, the first n of the rest
  pub takes_more : (a b c : S) (bytes piece : List ℕ) (i n : ℕ) → i ≤ length bytes → piece ≡ drop i bytes → Takes taken number a b (take i bytes)
      → Takes taken number b c (take n piece) → Takes taken number a c (take (i + n) bytes)
  takes_more a b c bytes piece i n within is p q =
      let split : take (i + n) (take i bytes ++ drop i bytes) ≡ take i bytes ++ take n (drop i bytes) =
      subst (λ (k : ℕ). take (k + n) (take i bytes ++ drop i bytes) ≡ take i bytes ++ take n (drop i bytes)) (length-take-le i bytes within)
      (take-append-add (take i bytes) (drop i bytes) n) in
      let joined : take (i + n) bytes ≡ take i bytes ++ take n piece =
      ap (take (i + n)) (sym (take-append-drop i bytes)) ∙ split ∙ ap (λ l. take i bytes ++ take n l) (sym is) in
      rw joined (takes_both a b c (take i bytes) (take n piece) p q)

  -- after the first i bytes of a text nothing more was taken: a front of it is out
  pub front_stays : (a b c : S) (bytes : List ℕ) (i : ℕ) → i ≤ length bytes → Takes taken number a b (take i bytes)
      → Takes taken number b c [] → TakesFront taken number a c bytes
  front_stays a b c bytes i within p q = record {
    size = i;
    within = within;
    takes = subst (Takes taken number a c) (append-nil (take i bytes)) (takes_both a b c (take i bytes) [] p q);
  }

  -- a call that puts a text after one that took all of another
  pub puts_then : {E : Type 0} (a b c : S) (xs ys : List ℕ) (r : Result (Unit {0}) E) → Takes taken number a b xs → Puts taken number r b c ys
      → Puts taken number r a c (xs ++ ys)
  puts_then a b c xs ys (Ok u) p q = record { all = takes_both a b c xs ys p q.all; front = tt }
  puts_then a b c xs ys (Err e) p q = record { all = tt; front = front_then a b c xs ys p q.front }

  -- a call that failed, with a front of its text out
  pub puts_failed : (E : Type 0) (a b : S) (text : List ℕ) (r : Result (Unit {0}) E) → IsErr r → TakesFront taken number a b text → Puts taken number r a b text
  puts_failed E a b text (Ok u) is p = absurd (not_err E u is)
  puts_failed E a b text (Err e) is p = record { all = tt; front = p }

  -- a call that failed within the first of two texts
  pub puts_stop : (E : Type 0) (a b : S) (xs ys : List ℕ) (r : Result (Unit {0}) E) → IsErr r → TakesFront taken number a b xs
      → Puts taken number r a b (xs ++ ys)
  puts_stop E a b xs ys r is p = puts_failed E a b (xs ++ ys) r is (front_more a b xs ys p)

  -- a loop of puts that failed at the text of the i-th item
  pub front_of_pieces : {A : Type 0} (a b c : S) (text : A → List ℕ) (xs : List A) (i : ℕ) (d : A) → i < length xs
      → Takes taken number a b (flat_map text (take i xs)) → TakesFront taken number b c (text (get_or xs i d)) → TakesFront taken number a c (flat_map text xs)
  front_of_pieces a b c text xs i d lt p q =
      let front = front_then a b c (flat_map text (take i xs)) (text (get_or xs i d)) p q in
      let piece : flat_map text (take (i + 1) xs) ≡ flat_map text (take i xs) ++ text (get_or xs i d) = flat_map_next text xs i d lt in
      let whole : flat_map text xs ≡ flat_map text (take (i + 1) xs) ++ flat_map text (drop (i + 1) xs) =
      ap (flat_map text) (sym (take-append-drop (i + 1) xs)) ∙ flat_map-append text (take (i + 1) xs) (drop (i + 1) xs) in
      rw whole (front_more a c (flat_map text (take (i + 1) xs)) (flat_map text (drop (i + 1) xs)) (rw piece front))

  -- a call that took nothing took a front of any text
  pub front_nothing : (a b : S) (text : List ℕ) → Takes taken number a b [] → TakesFront taken number a b text
  front_nothing a b text p = record { size = 0; within = omega arith; takes = p }

  -- all of a text is a front of it
  pub front_whole : (a b : S) (text : List ℕ) → Takes taken number a b text → TakesFront taken number a b text
  front_whole a b text p = record { size = length text; within = omega arith; takes = let all : take (length text) text ≡ text = grind (arith, common_steps) in rw all p }

  -- a `done` after a call that put a text, which appends nothing
  pub puts_done : {E : Type 0} (a b c : S) (text : List ℕ) (r : Result (Unit {0}) E) → Takes taken number a b text → Takes taken number b c [] → Puts taken number r a c text
  puts_done a b c text (Ok u) p q = record { all = subst (Takes taken number a c) (append-nil text) (takes_both a b c text [] p q); front = tt }
  puts_done a b c text (Err e) p q = record {
    all = tt;
    front = front_whole a c text (subst (Takes taken number a c) (append-nil text) (takes_both a b c text [] p q));
  }

  -- however a call that puts a text ends, a front of it is out
  pub puts_front : {E : Type 0} (a b : S) (text : List ℕ) (r : Result (Unit {0}) E) → Puts taken number r a b text → TakesFront taken number a b text
  puts_front a b text (Ok u) p = front_whole a b text p.all
  puts_front a b text (Err e) p = p.front
