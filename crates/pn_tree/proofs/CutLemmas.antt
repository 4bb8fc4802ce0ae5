-- Parts of lists.
use Rattle.std.proofs.Common.{◌≡◌, ℕ, zero, suc, ◌+◌, ◌-◌, ◌<◌, ◌≤◌, Bool, true, Some, min, List, [], ◌∷◌, ◌++◌, length, take, drop, get_or, refl, sym, ap, ◌∙◌, subst, arith, length-append, length-drop, length-take}
use Rattle.std.proofs.Math.Seq.{drop-append_seam}
use Rattle.std.proofs.lemmas.List.{take-append-drop, take-append-le, drop-append-le, take_all, get_or_append_left, get_or-drop, get_or-take}
use Rattle.std.proofs.lemmas.Option.{slice_get_read}
use Rattle.pn_facts.proofs.Truths.{and_left, and_right}
use Rattle.std.specs.List.{All, list_all, slice_get}
use Rattle.pn_tree.specs.Tables.{cut, IsSpan}
use Rattle.pn_tree.specs.declared.tables.Span.{Span}

-- what comes behind a list changes none of its parts
pub cut_more : {X : Type 0} (s : Span) (xs ys : List X) → IsSpan (length xs) s → cut s (xs ++ ys) ≡ cut s xs
cut_more s xs ys p =
    let o = p.ordered in
    let w = p.within in
    ap (take (s.end - s.start)) (drop-append-le s.start xs ys (omega arith))
    ∙ take-append-le (s.end - s.start) (drop s.start xs) ys (omega (arith, length-drop s.start xs))

-- a part up to the end
pub cut_rest : {X : Type 0} (s : Span) (xs : List X) → s.end ≡ length xs → cut s xs ≡ drop s.start xs
cut_rest s xs e = take_all (s.end - s.start) (drop s.start xs) (omega (arith, length-drop s.start xs))

take_none : {X : Type 0} (n : ℕ) (xs : List X) → n ≡ 0 → take n xs ≡ []
take_none n xs e = ap (λ m. take m xs) e

pub cut_empty : {X : Type 0} (s : Span) (xs : List X) → s.start ≡ s.end → cut s xs ≡ []
cut_empty s xs e = take_none (s.end - s.start) (drop s.start xs) (omega arith)

-- what was put behind a list is its last part
pub cut_last : {X : Type 0} (s : Span) (xs ys : List X) → s.start ≡ length xs → s.end ≡ length (xs ++ ys) → cut s (xs ++ ys) ≡ ys
cut_last s xs ys b e = cut_rest s (xs ++ ys) e ∙ ap (λ n. drop n (xs ++ ys)) b ∙ drop-append_seam xs ys

-- a last part that is made longer
pub cut_joined : {X : Type 0} (s r : Span) (xs ys : List X) → s.start ≤ s.end → s.end ≡ length xs → r.start ≡ s.start → r.end ≡ length (xs ++ ys) → cut r (xs ++ ys) ≡ cut s xs ++ ys
cut_joined s r xs ys o e b f =
    cut_rest r (xs ++ ys) f ∙ ap (λ n. drop n (xs ++ ys)) b ∙ drop-append-le s.start xs ys (omega arith) ∙ ap (λ l. l ++ ys) (sym (cut_rest s xs e))

-- one more behind a last part
pub cut_push : {X : Type 0} (s r : Span) (xs : List X) (x : X) → s.start ≤ s.end → s.end ≡ length xs → r.start ≡ s.start → r.end ≡ length xs + 1 → cut r (xs ++ (x ∷ [])) ≡ cut s xs ++ (x ∷ [])
cut_push s r xs x o e b f = cut_joined s r xs (x ∷ []) o e b (f ∙ sym (length-append xs (x ∷ [])))

pub nil_from : {X : Type 0} (xs : List X) → length xs ≡ 0 → xs ≡ []
nil_from [] h = refl
nil_from (x ∷ xs) h = absurd (omega (arith, h))

pub cut_length : {X : Type 0} (s : Span) (xs : List X) → IsSpan (length xs) s → length (cut s xs) ≡ s.end - s.start
cut_length s xs p =
    let w = p.within in
    length-take (s.end - s.start) (drop s.start xs) ∙ least (s.end - s.start) (length (drop s.start xs)) (omega (arith, length-drop s.start xs))
  where
    least : (m n : ℕ) → m ≤ n → min m n ≡ m
    least m n le = omega arith

-- what stands at a place of a part
pub cut_at : {X : Type 0} (s : Span) (xs : List X) (i : ℕ) (x : X) → IsSpan (length xs) s → s.start + i < s.end → x ≡ get_or xs (s.start + i) x → slice_get (cut s xs) i ≡ Some x
cut_at s xs i x p lt is =
    let inside : i < s.end - s.start = omega arith in
    slice_get_read (cut s xs) (length (cut s xs)) i x refl (omega (arith, cut_length s xs p))
    (is ∙ sym (get_or-drop s.start xs i x) ∙ sym (get_or-take (s.end - s.start) (drop s.start xs) i x inside))

pub drop_at : {X : Type 0} (xs : List X) (i : ℕ) (x : X) → slice_get xs i ≡ Some x → drop i xs ≡ x ∷ drop (suc i) xs
drop_at [] i x is = absurd cc
drop_at (y ∷ xs) zero x is = let same : y ≡ x = cc in ap (λ z. z ∷ xs) same
drop_at (y ∷ xs) (suc i) x is = drop_at xs i x is

pub list_all_at : {X : Type 0} (p : X → Bool) (xs : List X) (i : ℕ) (x : X) → slice_get xs i ≡ Some x → list_all p xs ≡ true → p x ≡ true
list_all_at p [] i x is h = absurd cc
list_all_at p (y ∷ xs) zero x is h = let same : y ≡ x = cc in subst (λ z. p z ≡ true) same (and_left (p y) (list_all p xs) h)
list_all_at p (y ∷ xs) (suc i) x is h = list_all_at p xs i x is (and_right (p y) (list_all p xs) h)

-- all items

pub all_one : {X : Type 0} (P : X → Type 0) (x : X) → P x → All P (x ∷ [])
all_one P x p zero d lt = p
all_one P x p (suc k) d lt = absurd (omega arith)

pub all_none : {X : Type 0} (P : X → Type 0) → All P []
all_none P k d lt = absurd (omega arith)

pub all_first : {X : Type 0} (P : X → Type 0) (x : X) (xs : List X) → All P (x ∷ xs) → P x
all_first P x xs h = h zero x (omega arith)

pub all_others : {X : Type 0} (P : X → Type 0) (x : X) (xs : List X) → All P (x ∷ xs) → All P xs
all_others P x xs h k d lt = h (suc k) d (omega arith)

pub all_front : {X : Type 0} (P : X → Type 0) (xs ys : List X) → All P (xs ++ ys) → All P xs
all_front P xs ys h k d lt = subst P (get_or_append_left xs ys d k lt) (h k d (omega (arith, length-append xs ys)))

pub all_back : {X : Type 0} (P : X → Type 0) (xs ys : List X) → All P (xs ++ ys) → All P ys
all_back P [] ys h = h
all_back P (x ∷ xs) ys h = all_back P xs ys (all_others P x (xs ++ ys) h)

pub all_drop : {X : Type 0} (P : X → Type 0) (n : ℕ) (xs : List X) → All P xs → All P (drop n xs)
all_drop P n xs h = all_back P (take n xs) (drop n xs) (subst (All P) (sym (take-append-drop n xs)) h)

pub all_take : {X : Type 0} (P : X → Type 0) (n : ℕ) (xs : List X) → All P xs → All P (take n xs)
all_take P n xs h = all_front P (take n xs) (drop n xs) (subst (All P) (sym (take-append-drop n xs)) h)

pub all_cut : {X : Type 0} (P : X → Type 0) (s : Span) (xs : List X) → All P xs → All P (cut s xs)
all_cut P s xs h = all_take P (s.end - s.start) (drop s.start xs) (all_drop P s.start xs h)

pub all_each : {X : Type 0} (P Q : X → Type 0) → ((x : X) → P x → Q x) → (xs : List X) → All P xs → All Q xs
all_each P Q f xs h k d lt = f (get_or xs k d) (h k d lt)

-- the last items of equal lists are equal
pub last_same : {X : Type 0} (xs ys : List X) (x y : X) → xs ++ (x ∷ []) ≡ ys ++ (y ∷ []) → x ≡ y
last_same [] [] x y e = cc
last_same [] (z ∷ []) x y e = cc
last_same [] (z ∷ w ∷ zs) x y e = cc
last_same (z ∷ []) [] x y e = cc
last_same (z ∷ w ∷ zs) [] x y e = cc
last_same (z ∷ xs) (w ∷ ys) x y e = let rest : xs ++ (x ∷ []) ≡ ys ++ (y ∷ []) = cc in last_same xs ys x y rest
