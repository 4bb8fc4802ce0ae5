-- Places in lists.
use Rattle.std.proofs.Common.{◌≡◌, ℕ, zero, suc, ◌+◌, ◌<◌, List, [], ◌∷◌, ◌++◌, length, map, Option, Some, None, refl, sym, ap, ◌∙◌, arith}
use Rattle.std.specs.List.{slice_get, range_with_len}
use Rattle.std.specs.Option.{option_map}
use Rattle.std.proofs.lemmas.List.FromFn.{length-range_with_len}
use Rattle.std.proofs.lemmas.Option.{slice_get-map, slice_get_within}

pub get_left : {X : Type 0} (xs ys : List X) (k : ℕ) (x : X) → slice_get xs k ≡ Some x → slice_get (xs ++ ys) k ≡ Some x
get_left [] ys k x h = absurd cc
get_left (y ∷ xs) ys zero x h = h
get_left (y ∷ xs) ys (suc k) x h = get_left xs ys k x h

pub get_right : {X : Type 0} (xs ys : List X) (k : ℕ) → slice_get (xs ++ ys) (length xs + k) ≡ slice_get ys k
get_right [] ys k = ap (slice_get ys) (omega arith)
get_right (x ∷ xs) ys k = let next : suc (length xs) + k ≡ suc (length xs + k) = omega arith in ap (slice_get (x ∷ (xs ++ ys))) next ∙ get_right xs ys k

pub get_left_back : {X : Type 0} (xs ys : List X) (k : ℕ) → k < length xs → slice_get (xs ++ ys) k ≡ slice_get xs k
get_left_back [] ys k h = absurd (omega arith)
get_left_back (y ∷ xs) ys zero h = refl
get_left_back (y ∷ xs) ys (suc k) h = get_left_back xs ys k (omega arith)

mapped_at : {A B : Type 0} (f : A → B) (got : Option A) (y : B) → option_map f got ≡ Some y → (x : A) × (got ≡ Some x) × (y ≡ f x)
mapped_at f None y h = absurd cc
mapped_at f (Some x) y h = (x, refl, cc)

-- what stands at a place of a mapped list
pub mapped : {A B : Type 0} (f : A → B) (xs : List A) (k : ℕ) (y : B) → slice_get (map f xs) k ≡ Some y → (x : A) × (slice_get xs k ≡ Some x) × (y ≡ f x)
mapped f xs k y h = mapped_at f (slice_get xs k) y (sym (slice_get-map f xs k) ∙ h)

pub map_place : {A B : Type 0} (f : A → B) (xs : List A) (k : ℕ) (x : A) → slice_get xs k ≡ Some x → slice_get (map f xs) k ≡ Some (f x)
map_place f xs k x h = slice_get-map f xs k ∙ ap (option_map f) h

-- the numbers from a on
pub range_place : (a n k : ℕ) → k < n → slice_get (range_with_len a n) k ≡ Some (a + k)
range_place a zero k h = absurd (omega arith)
range_place a (suc n) zero h = ap Some (omega arith)
range_place a (suc n) (suc k) h = range_place (a + 1) n k (omega arith) ∙ ap Some (omega arith)

pub range_at : (n k x : ℕ) → slice_get (range_with_len 0 n) k ≡ Some x → (k < n) × (x ≡ k)
range_at n k x h =
    let lt : k < n = omega (arith, slice_get_within (range_with_len 0 n) k x h, length-range_with_len 0 n) in
    let is : Some x ≡ Some (0 + k) = sym h ∙ range_place 0 n k lt in
    let same : x ≡ 0 + k = cc in
    (lt, omega arith)
