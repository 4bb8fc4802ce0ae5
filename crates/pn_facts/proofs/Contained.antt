-- What lists contain.
use Rattle.std.proofs.Common.{◌≡◌, ◌⊎◌, inl, inr, ℕ, zero, suc, ◌<◌, List, [], ◌∷◌, ◌++◌, length, get_or, Some, refl, sym, ap, subst, arith}
use Rattle.std.specs.List.{Contains, flat_map, slice_get}
use Rattle.std.proofs.lemmas.List.Elements.{Contains-append_left, Contains-append_right, Contains-append_cases}

pub contains_nil : {X : Type 0} (x : X) → Contains [] x → ⊥
contains_nil x c = omega (arith, c.1)

pub contains_first : {X : Type 0} (x : X) (xs : List X) → Contains (x ∷ xs) x
contains_first x xs = (zero, omega arith, refl)

pub contains_next : {X : Type 0} (y : X) (xs : List X) (x : X) → Contains xs x → Contains (y ∷ xs) x
contains_next y xs x c = (suc c.0, omega (arith, c.1), c.2)

split_at : {X : Type 0} (y : X) (xs : List X) (x : X) (k : ℕ) → k < length (y ∷ xs) → get_or (y ∷ xs) k x ≡ x → (y ≡ x) ⊎ Contains xs x
split_at y xs x zero lt is = inl is
split_at y xs x (suc k) lt is = inr (k, omega arith, is)

-- the first item, or one behind it
pub contains_cases : {X : Type 0} (y : X) (xs : List X) (x : X) → Contains (y ∷ xs) x → (y ≡ x) ⊎ Contains xs x
contains_cases y xs x c = split_at y xs x c.0 c.1 c.2

pub contains_one : {X : Type 0} (y x : X) → Contains (y ∷ []) x → x ≡ y
contains_one y x c = elim (contains_cases y [] x c) [ inl e ↦ sym e | inr d ↦ absurd (contains_nil x d) ]

-- what one of the things gives, all of them give
pub contains_all_of : {X Y : Type 0} (f : X → List Y) (xs : List X) (x : X) (y : Y) → Contains xs x → Contains (f x) y → Contains (flat_map f xs) y
contains_all_of f [] x y c d = absurd (contains_nil x c)
contains_all_of f (z ∷ xs) x y c d = step (contains_cases z xs x c) (λ (w : Contains xs x). contains_all_of f xs x y w d)
  where
    step : (z ≡ x) ⊎ Contains xs x → (Contains xs x → Contains (flat_map f xs) y) → Contains (f z ++ flat_map f xs) y
    step (inl e) more = Contains-append_left (f z) (flat_map f xs) y (subst (λ w. Contains (f w) y) (sym e) d)
    step (inr w) more = Contains-append_right (f z) (flat_map f xs) y (more w)

-- what all things give, one of them gives
pub contains_some_of : {X Y : Type 0} (f : X → List Y) (xs : List X) (y : Y) → Contains (flat_map f xs) y → (x : X) × Contains xs x × Contains (f x) y
contains_some_of f [] y c = absurd (contains_nil y c)
contains_some_of f (z ∷ xs) y c = step (Contains-append_cases (f z) (flat_map f xs) y c) (contains_some_of f xs y)
  where
    step : Contains (f z) y ⊎ Contains (flat_map f xs) y → (Contains (flat_map f xs) y → (x : _) × Contains xs x × Contains (f x) y) → (x : _) × Contains (z ∷ xs) x × Contains (f x) y
    step (inl d) more = (z, contains_first z xs, d)
    step (inr d) more = let found = more d in (found.0, contains_next z xs found.0 found.1, found.2)

pub contains_at : {X : Type 0} (xs : List X) (k : ℕ) (x : X) → slice_get xs k ≡ Some x → Contains xs x
contains_at [] k x h = absurd cc
contains_at (y ∷ xs) zero x h = let same : y ≡ x = cc in (zero, omega arith, same)
contains_at (y ∷ xs) (suc k) x h = contains_next y xs x (contains_at xs k x h)

pub at_contains : {X : Type 0} (xs : List X) (x : X) → Contains xs x → (k : ℕ) × (slice_get xs k ≡ Some x)
at_contains [] x c = absurd (contains_nil x c)
at_contains (y ∷ xs) x c = step (contains_cases y xs x c) (at_contains xs x)
  where
    step : (y ≡ x) ⊎ Contains xs x → (Contains xs x → (k : ℕ) × (slice_get xs k ≡ Some x)) → (k : ℕ) × (slice_get (y ∷ xs) k ≡ Some x)
    step (inl e) more = (zero, ap Some e)
    step (inr d) more = let found = more d in (suc found.0, found.1)
