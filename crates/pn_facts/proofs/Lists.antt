-- Lists.
use Rattle.std.proofs.Common.{◌≡◌, ℕ, zero, suc, ◌+◌, one-add, ◌<◌, Bool, true, false, cond, take, List, [], ◌∷◌, ◌++◌, length, drop, get_or, Some, refl, sym, ap, ◌∙◌, arith}
use Rattle.std.proofs.Math.Seq.{drop-cons}
use Rattle.std.specs.List.{list_all, flat_map, prefix_len, slice_get}
use Rattle.pn_facts.proofs.Truths.{and_left, and_right, and_both}

-- what is left from a place on begins with what stands there
pub drop_next : {X : Type 0} (xs : List X) (i : ℕ) (x : X) → i < length xs → x ≡ get_or xs i x → drop i xs ≡ x ∷ drop (i + 1) xs
drop_next xs i x lt is = let next : i + 1 ≡ suc i = omega arith in drop-cons xs i x lt ∙ ap (λ y. y ∷ drop (suc i) xs) (sym is) ∙ ap (λ n. x ∷ drop n xs) (sym next)

pub list_all_each : {X : Type 0} (p q : X → Bool) → ((x : X) → p x ≡ true → q x ≡ true) → (xs : List X) → list_all p xs ≡ true → list_all q xs ≡ true
list_all_each p q f [] h = refl
list_all_each p q f (x ∷ xs) h = and_both (q x) (list_all q xs) (f x (and_left (p x) (list_all p xs) h)) (list_all_each p q f xs (and_right (p x) (list_all p xs) h))

pub list_all_get : {X : Type 0} (p : X → Bool) (xs : List X) (i : ℕ) (d : X) → i < length xs → list_all p xs ≡ true → p (get_or xs i d) ≡ true
list_all_get p [] i d lt h = absurd (omega arith)
list_all_get p (x ∷ xs) zero d lt h = and_left (p x) (list_all p xs) h
list_all_get p (x ∷ xs) (suc i) d lt h = list_all_get p xs i d (omega arith) (and_right (p x) (list_all p xs) h)

pub all_append : {X : Type 0} (p : X → Bool) (xs ys : List X) → list_all p xs ≡ true → list_all p ys ≡ true → list_all p (xs ++ ys) ≡ true
all_append p [] ys h k = k
all_append p (x ∷ xs) ys h k = and_both (p x) (list_all p (xs ++ ys)) (and_left (p x) (list_all p xs) h) (all_append p xs ys (and_right (p x) (list_all p xs) h) k)

-- bytes that are written as they are, each of them, are written as they are
pub flat_map_same : (write : ℕ → List ℕ) (test : ℕ → Bool) → ((b : ℕ) → test b ≡ true → write b ≡ b ∷ []) → (bs : List ℕ) → list_all test bs ≡ true
    → flat_map write bs ≡ bs
flat_map_same write test same [] h = refl
flat_map_same write test same (b ∷ bs) h =
    ap (λ l. l ++ flat_map write bs) (same b (and_left (test b) (list_all test bs) h))
    ∙ ap (λ l. b ∷ l) (flat_map_same write test same bs (and_right (test b) (list_all test bs) h))

-- the front that passes a test
pub front_passes : {X : Type 0} (p : X → Bool) (xs : List X) → list_all p (take (prefix_len p xs) xs) ≡ true
front_passes p [] = refl
front_passes p (x ∷ xs) = go (p x) refl (front_passes p xs)
  where
    go : (b : Bool) → p x ≡ b → list_all p (take (prefix_len p xs) xs) ≡ true → list_all p (take (cond b (1 + prefix_len p xs) 0) (x ∷ xs)) ≡ true
    go true e h = rw (one-add, e) h
    go false e h = refl

-- what is left from a place on begins with what stands there, and what is before the next place ends with it
pub drop_got : {X : Type 0} (xs : List X) (i : ℕ) (x : X) → slice_get xs i ≡ Some x → drop i xs ≡ x ∷ drop (i + 1) xs
drop_got [] i x is = absurd cc
drop_got (y ∷ ys) zero x is = let same : y ≡ x = cc in ap (λ z. z ∷ ys) same
drop_got (y ∷ ys) (suc i) x is = let next : suc i + 1 ≡ suc (i + 1) = omega arith in drop_got ys i x is ∙ ap (λ n. x ∷ drop n (y ∷ ys)) (sym next)

pub take_got : {X : Type 0} (xs : List X) (i : ℕ) (x : X) → slice_get xs i ≡ Some x → take (i + 1) xs ≡ take i xs ++ x ∷ []
take_got [] i x is = absurd cc
take_got (y ∷ ys) zero x is = let same : y ≡ x = cc in ap (λ z. z ∷ []) same
take_got (y ∷ ys) (suc i) x is = let next : suc i + 1 ≡ suc (i + 1) = omega arith in ap (λ n. take n (y ∷ ys)) next ∙ ap (λ l. y ∷ l) (take_got ys i x is)

-- something stands in each place within a list
pub got : {X : Type 0} (xs : List X) (i : ℕ) → i < length xs → (x : X) × (slice_get xs i ≡ Some x)
got [] i lt = absurd (omega arith)
got (x ∷ xs) zero lt = (x, refl)
got (x ∷ xs) (suc i) lt = got xs i (omega arith)

-- the parts of a list that is empty are, and the other way round
pub first_empty : {X : Type 0} (xs ys : List X) → xs ++ ys ≡ [] → xs ≡ []
first_empty [] ys is = refl
first_empty (x ∷ xs) ys is = absurd cc

pub second_empty : {X : Type 0} (xs ys : List X) → xs ++ ys ≡ [] → ys ≡ []
second_empty [] ys is = is
second_empty (x ∷ xs) ys is = absurd cc

pub both_empty : {X : Type 0} (xs ys : List X) → xs ≡ [] → ys ≡ [] → xs ++ ys ≡ []
both_empty xs ys first second = ap (λ l. l ++ ys) first ∙ second
