-- Copies of entries, and their number.
use Rattle.std.specs.Prelude.{◌≡◌, ℕ, List, [], ◌∷◌, sum_by}
use Rattle.std.specs.declared.cmp.Ordering.{Ordering}
use Rattle.std.specs.declared.cmp.Ordering.TheVariants.{Equal}

-- entry by entry, a key that compares Equal, and the same count
abbrev pub IsCopy : {K : Type 0} → (K → K → Ordering) → List (K × ℕ) → List (K × ℕ) → Type 0
IsCopy cmp [] [] = Unit {0}
IsCopy cmp [] (y ∷ ys) = ⊥
IsCopy cmp (x ∷ xs) [] = ⊥
IsCopy cmp (x ∷ xs) (y ∷ ys) = (cmp y.0 x.0 ≡ Equal) × (y.1 ≡ x.1) × IsCopy cmp xs ys

-- how many there are: the sum of all counts
abbrev pub total_of : {K : Type 0} → List (K × ℕ) → ℕ
total_of entries = sum_by (λ entry. entry.1) entries
