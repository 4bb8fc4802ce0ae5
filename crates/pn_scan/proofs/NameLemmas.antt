-- Names that are kept one behind the other.
use Rattle.std.proofs.Common.{◌≡◌, ℕ, zero, suc, ◌+◌, add-zero, add-one, ◌-◌, ◌<◌, ◌≤◌, Bool, true, false, cond, ◌||◌, List, [], ◌∷◌, ◌++◌, append-nil, append_assoc, length, length-append, take, drop, reverse, Some, None, refl, sym, ap, ◌∙◌, subst, arith}
use Rattle.std.specs.List.{concat, slice_get, list_any}
use Rattle.std.specs.Str.{bytes_eq}
use Rattle.std.proofs.lemmas.List.{reverse-reverse, reverse-append}
use Rattle.std.proofs.lemmas.List.Folds.{concat-append, list_any-append}
use Rattle.std.proofs.Math.Seq.{take-append_seam, drop-append_seam}
use Rattle.pn_tree.specs.Building.{with_attr}
use Rattle.pn_tree.specs.declared.element.Element.{Element}
use Rattle.pn_scan.specs.Names.{spans_from, AreNames, Holds, has_other, AreNoted}
use Rattle.pn_scan.specs.declared.names.Span.{Span}
use Rattle.pn_scan.specs.declared.names.AttributeNames.{AttributeNames}
use Rattle.pn_scan.proofs.PieceLemmas.{some_is}
use Rattle.pn_scan.proofs.AttributeNameLemmas.{attr_push}

abbrev span_of : ℕ → List ℕ → Span
span_of start name = record { start = start; end = start + length name }

snoc_at : {A : Type 0} → (xs : List A) (y : A) → slice_get (xs ++ (y ∷ [])) (length xs) ≡ Some y
snoc_at [] y = refl
snoc_at (x ∷ xs) y = snoc_at xs y

last_at : {A : Type 0} → (xs : List A) (y : A) → slice_get (xs ++ (y ∷ [])) (length (xs ++ (y ∷ [])) - 1) ≡ Some y
last_at xs y =
    let n : length (xs ++ (y ∷ [])) - 1 ≡ length xs = omega (arith, length-append xs (y ∷ [])) in
    ap (slice_get (xs ++ (y ∷ []))) n ∙ snoc_at xs y

turned : {A : Type 0} → (xs : List A) (x : A) → reverse (xs ++ (x ∷ [])) ≡ x ∷ reverse xs
turned xs x = reverse-append xs (x ∷ [])

head_same : {A : Type 0} → (x y : A) (xs ys : List A) → x ∷ xs ≡ y ∷ ys → x ≡ y
head_same x y xs ys h = cc

tail_same : {A : Type 0} → (x y : A) (xs ys : List A) → x ∷ xs ≡ y ∷ ys → xs ≡ ys
tail_same x y xs ys h = cc

snoc_same : {A : Type 0} → (xs ys : List A) (x y : A) → xs ++ (x ∷ []) ≡ ys ++ (y ∷ []) → (xs ≡ ys) × (x ≡ y)
snoc_same xs ys x y h =
    let both : x ∷ reverse xs ≡ y ∷ reverse ys = sym (turned xs x) ∙ ap reverse h ∙ turned ys y in
    (sym (reverse-reverse xs) ∙ ap reverse (tail_same x y (reverse xs) (reverse ys) both) ∙ reverse-reverse ys, head_same x y (reverse xs) (reverse ys) both)

joined_push : (names : List (List ℕ)) (w : List ℕ) → concat (names ++ (w ∷ [])) ≡ concat names ++ w
joined_push names w = concat-append names (w ∷ []) ∙ ap (λ l. concat names ++ l) (append-nil w)

spans_push : (start : ℕ) (names : List (List ℕ)) (w : List ℕ) → spans_from start (names ++ (w ∷ [])) ≡ spans_from start names ++ (span_of (start + length (concat names)) w ∷ [])
spans_push start [] w = ap (λ k. span_of k w ∷ []) (sym (add-zero start))
spans_push start (n ∷ ns) w =
    let sum : (start + length n) + length (concat ns) ≡ start + length (n ++ concat ns) = omega (arith, length-append n (concat ns)) in
    ap (λ l. span_of start n ∷ l) (spans_push (start + length n) ns w ∙ ap (λ k. spans_from (start + length n) ns ++ (span_of k w ∷ [])) sum)

all_spans : (names : List (List ℕ)) (w : List ℕ) → spans_from 0 (names ++ (w ∷ [])) ≡ spans_from 0 names ++ (span_of (length (concat names)) w ∷ [])
all_spans names w =
    let none : 0 + length (concat names) ≡ length (concat names) = omega arith in
    spans_push 0 names w ∙ ap (λ k. spans_from 0 names ++ (span_of k w ∷ [])) none

pub names_pushed : (names : List (List ℕ)) (w b b2 : List ℕ) (s s2 : List Span) (k e : ℕ) → AreNames names b s → b2 ≡ b ++ w → k ≡ length b → e ≡ length b2
    → s2 ≡ s ++ (record { start = k; end = e } ∷ []) → AreNames (names ++ (w ∷ [])) b2 s2
names_pushed names w b b2 s s2 k e h more start end is =
    let size : k ≡ length (concat names) = start ∙ ap length h.joined in
    let last : e ≡ k + length w = end ∙ ap length more ∙ length-append b w ∙ ap (λ n. n + length w) (sym start) in
    record {
      joined = more ∙ ap (λ l. l ++ w) h.joined ∙ sym (joined_push names w);
      places =
          is ∙ ap (λ n. s ++ (record { start = k; end = n } ∷ [])) last ∙ ap (λ l. l ++ (span_of k w ∷ [])) h.places
          ∙ ap (λ n. spans_from 0 names ++ (span_of n w ∷ [])) size ∙ sym (all_spans names w);
    }

pub names_popped : (names : List (List ℕ)) (w b b2 : List ℕ) (s s2 : List Span) (last : Span) → AreNames (names ++ (w ∷ [])) b s → s ≡ s2 ++ (last ∷ []) → b2 ≡ take last.start b
    → AreNames names b2 s2
names_popped names w b b2 s s2 last h is less =
    let same = snoc_same s2 (spans_from 0 names) last (span_of (length (concat names)) w) (sym is ∙ h.places ∙ all_spans names w) in
    record {
      joined =
          less ∙ ap (λ k. take k b) (ap (λ (p : Span). p.start) same.1) ∙ ap (take (length (concat names))) (h.joined ∙ joined_push names w) ∙ take-append_seam (concat names) w;
      places = same.0;
    }

last_place : (names : List (List ℕ)) (w b : List ℕ) (s : List Span) → AreNames (names ++ (w ∷ [])) b s → slice_get s (length s - 1) ≡ Some (span_of (length (concat names)) w)
last_place names w b s h =
    let is : s ≡ spans_from 0 names ++ (span_of (length (concat names)) w ∷ []) = h.places ∙ all_spans names w in
    subst (λ l. slice_get l (length l - 1) ≡ Some (span_of (length (concat names)) w)) (sym is) (last_at (spans_from 0 names) (span_of (length (concat names)) w))

start_is : (names : List (List ℕ)) (w b : List ℕ) (s : List Span) (last : Span) → AreNames (names ++ (w ∷ [])) b s → slice_get s (length s - 1) ≡ Some last → last.start ≡ length (concat names)
start_is names w b s last h is = ap (λ (p : Span). p.start) (some_is last (span_of (length (concat names)) w) (sym is ∙ last_place names w b s h))

pub last_within : (names : List (List ℕ)) (w b : List ℕ) (s : List Span) (last : Span) → AreNames (names ++ (w ∷ [])) b s → slice_get s (length s - 1) ≡ Some last → last.start ≤ length b
last_within names w b s last h is =
    let start : last.start ≡ length (concat names) = start_is names w b s last h is in
    let size : length b ≡ length (concat names) + length w = ap length (h.joined ∙ joined_push names w) ∙ length-append (concat names) w in
    omega arith

pub last_text : (names : List (List ℕ)) (w b : List ℕ) (s : List Span) (last : Span) → AreNames (names ++ (w ∷ [])) b s → slice_get s (length s - 1) ≡ Some last → drop last.start b ≡ w
last_text names w b s last h is =
    ap (λ k. drop k b) (start_is names w b s last h is) ∙ ap (drop (length (concat names))) (h.joined ∙ joined_push names w) ∙ drop-append_seam (concat names) w

pub last_some : (names : List (List ℕ)) (w b : List ℕ) (s : List Span) → AreNames (names ++ (w ∷ [])) b s → slice_get s (length s - 1) ≡ None → ⊥
last_some names w b s h is = no_some (span_of (length (concat names)) w) (sym (last_place names w b s h) ∙ is)
  where
    no_some : (x : Span) → Some x ≡ None → ⊥
    no_some x e = cc

pub within_some : {A : Type 0} → (xs : List A) (i : ℕ) (x : A) → slice_get xs i ≡ Some x → i < length xs
within_some [] i x h = absurd (cc)
within_some (y ∷ ys) zero x h = omega arith
within_some (y ∷ ys) (suc i) x h = let less : i < length ys = within_some ys i x h in omega arith

spans_length : (start : ℕ) (names : List (List ℕ)) → length (spans_from start names) ≡ length names
spans_length start [] = refl
spans_length start (n ∷ ns) = ap suc (spans_length (start + length n) ns)

pub names_length : (names : List (List ℕ)) (b : List ℕ) (s : List Span) → AreNames names b s → length s ≡ length names
names_length names b s h = ap length h.places ∙ spans_length 0 names

-- one name among others

pub record Place (names : List (List ℕ)) (b : List ℕ) (i : ℕ) (span : Span) : Type 0 where
  pub name : List ℕ
  pub at : drop i names ≡ name ∷ drop (suc i) names
  pub ordered : span.start ≤ span.end
  pub within : span.end ≤ length b
  pub text : take (span.end - span.start) (drop span.start b) ≡ name

first_place : (front n : List ℕ) (ns : List (List ℕ)) → Place (n ∷ ns) (front ++ (n ++ concat ns)) 0 (span_of (length front) n)
first_place front n ns =
    let size : (length front + length n) - length front ≡ length n = omega arith in
    record {
      name = n;
      at = refl;
      ordered = omega arith;
      within = omega (arith, length-append front (n ++ concat ns), length-append n (concat ns));
      text = ap (λ k. take k (drop (length front) (front ++ (n ++ concat ns)))) size ∙ ap (take (length n)) (drop-append_seam front (n ++ concat ns)) ∙ take-append_seam n (concat ns);
    }

places_from : (names : List (List ℕ)) (front : List ℕ) (i : ℕ) (span : Span) → slice_get (spans_from (length front) names) i ≡ Some span → Place names (front ++ concat names) i span
places_from [] front i span h = absurd (cc)
places_from (n ∷ ns) front zero span h =
    subst (Place (n ∷ ns) (front ++ (n ++ concat ns)) 0) (some_is (span_of (length front) n) span h) (first_place front n ns)
places_from (n ∷ ns) front (suc i) span h =
    let start : length front + length n ≡ length (front ++ n) = sym (length-append front n) in
    let rest = places_from ns (front ++ n) i span (subst (λ k. slice_get (spans_from k ns) i ≡ Some span) start h) in
    let same : (front ++ n) ++ concat ns ≡ front ++ (n ++ concat ns) = append_assoc front n (concat ns) in
    record {
      name = rest.name;
      at = rest.at;
      ordered = rest.ordered;
      within = subst (λ l. span.end ≤ length l) same rest.within;
      text = ap (λ l. take (span.end - span.start) (drop span.start l)) (sym same) ∙ rest.text;
    }

pub place_of : (names : List (List ℕ)) (b : List ℕ) (s : List Span) (i : ℕ) (span : Span) → AreNames names b s → slice_get s i ≡ Some span → Place names b i span
place_of names b s i span h is =
    subst (λ l. Place names l i span) (sym h.joined) (places_from names [] i span (subst (λ l. slice_get l i ≡ Some span) h.places is))

none_from : (start : ℕ) (names : List (List ℕ)) (i : ℕ) → slice_get (spans_from start names) i ≡ None → drop i names ≡ []
none_from start [] zero h = refl
none_from start [] (suc i) h = refl
none_from start (n ∷ ns) zero h = absurd (cc)
none_from start (n ∷ ns) (suc i) h = none_from (start + length n) ns i h

pub none_left : (names : List (List ℕ)) (b : List ℕ) (s : List Span) (i : ℕ) → AreNames names b s → slice_get s i ≡ None → drop i names ≡ []
none_left names b s i h is = none_from 0 names i (subst (λ l. slice_get l i ≡ None) h.places is)

any_here : (name : List ℕ) (names : List (List ℕ)) (w : List ℕ) (i : ℕ) → drop i names ≡ w ∷ drop (suc i) names
    → list_any (λ n. bytes_eq n name) (drop i names) ≡ (bytes_eq w name || list_any (λ n. bytes_eq n name) (drop (suc i) names))
any_here name names w i at = ap (list_any (λ n. bytes_eq n name)) at

-- a name that stands here is one of them
pub found_here : (name : List ℕ) (names : List (List ℕ)) (b : List ℕ) (i : ℕ) (span : Span) → Place names b i span
    → true ≡ bytes_eq (take (span.end - span.start) (drop span.start b)) name → true ≡ list_any (λ n. bytes_eq n name) (drop i names)
found_here name names b i span place found =
    let here : true ≡ bytes_eq place.name name = found ∙ ap (λ l. bytes_eq l name) place.text in
    sym (any_here name names place.name i place.at ∙ ap (λ t. t || list_any (λ n. bytes_eq n name) (drop (suc i) names)) (sym here))

-- one that does not is one of those behind
pub found_behind : (name : List ℕ) (names : List (List ℕ)) (b : List ℕ) (i : ℕ) (span : Span) → Place names b i span
    → false ≡ bytes_eq (take (span.end - span.start) (drop span.start b)) name → list_any (λ n. bytes_eq n name) (drop i names) ≡ list_any (λ n. bytes_eq n name) (drop (i + 1) names)
found_behind name names b i span place other =
    let here : false ≡ bytes_eq place.name name = other ∙ ap (λ l. bytes_eq l name) place.text in
    any_here name names place.name i place.at ∙ ap (λ t. t || list_any (λ n. bytes_eq n name) (drop (suc i) names)) (sym here)
    ∙ ap (λ k. list_any (λ n. bytes_eq n name) (drop k names)) (sym (add-one i))

-- names of attributes

put_first : (a b c : Bool) → ((a || (b || false)) || c) ≡ cond b true (a || c)
put_first true true c = refl
put_first true false c = refl
put_first false true c = refl
put_first false false c = refl

put_other : (a b c : Bool) → (a || cond b true c) ≡ cond b true (a || c)
put_other true true c = refl
put_other true false c = refl
put_other false true c = refl
put_other false false c = refl

-- one more in the list
pub noted_first : (t u : AttributeNames) (name value : List ℕ) (e : Element) → AreNoted t e.attrs → ((names : List (List ℕ)) → Holds names t.first → Holds (names ++ (name ∷ [])) u.first)
    → ((q : List ℕ) → has_other u q ≡ has_other t q) → AreNoted u (with_attr name value e).attrs
noted_first t u name value e h more same = record {
  names = h.names ++ (name ∷ []);
  held = more h.names h.held;
  all = λ q.
      ap (λ o. list_any (λ n. bytes_eq n q) (h.names ++ (name ∷ [])) || o) (same q)
      ∙ ap (λ a. a || has_other t q) (list_any-append (λ n. bytes_eq n q) h.names (name ∷ []))
      ∙ put_first (list_any (λ n. bytes_eq n q) h.names) (bytes_eq name q) (has_other t q) ∙ ap (cond (bytes_eq name q) true) (h.all q) ∙ sym (attr_push name value q e.attrs);
}

-- one more in the set
pub noted_other : (t u : AttributeNames) (name value : List ℕ) (e : Element) → AreNoted t e.attrs → u.first ≡ t.first
    → ((q : List ℕ) → has_other u q ≡ cond (bytes_eq name q) true (has_other t q)) → AreNoted u (with_attr name value e).attrs
noted_other t u name value e h same more = record {
  names = h.names;
  held = subst (Holds h.names) (sym same) h.held;
  all = λ q.
      ap (λ o. list_any (λ n. bytes_eq n q) h.names || o) (more q) ∙ put_other (list_any (λ n. bytes_eq n q) h.names) (bytes_eq name q) (has_other t q)
      ∙ ap (cond (bytes_eq name q) true) (h.all q) ∙ sym (attr_push name value q e.attrs);
}
