-- The sum, the multiple and the image of multisets. No count has a bound here.
use Rattle.std.specs.Prelude.{◌≡◌, ◌≢◌, ℕ, zero, suc, ◌+◌, ◌*◌, ◌<◌, List, [], ◌∷◌, map, ◌⊎◌}
use Rattle.std.specs.Ordering.{match_ordering}
use Rattle.std.specs.declared.cmp.Ordering.{Ordering}
use Rattle.std.specs.declared.cmp.Ordering.TheVariants.{Equal}
use Rattle.pn_bag.specs.Counts.{count_in, count_of, Every}

-- the entries with one more, in its place by the order of the keys, or joined to the entry of its key
abbrev pub inserted : {K : Type 0} → (K → K → Ordering) → List (K × ℕ) → K × ℕ → List (K × ℕ)
inserted cmp [] new = new ∷ []
inserted cmp (entry ∷ rest) new =
    match_ordering (cmp new.0 entry.0) (new ∷ entry ∷ rest) ((entry.0, entry.1 + new.1) ∷ rest) (entry ∷ inserted cmp rest new)

-- the entries with a key added some number of times, which changes nothing at 0 times
abbrev pub added : {K : Type 0} → (K → K → Ordering) → List (K × ℕ) → K → ℕ → List (K × ℕ)
added cmp entries key zero = entries
added cmp entries key (suc n) = inserted cmp entries (key, suc n)

-- the sum of two multisets
abbrev pub joined : {K : Type 0} → (K → K → Ordering) → List (K × ℕ) → List (K × ℕ) → List (K × ℕ)
joined cmp xs [] = xs
joined cmp xs (entry ∷ rest) = joined cmp (added cmp xs entry.0 entry.1) rest

-- each count multiplied, which leaves nothing at 0
abbrev pub scaled : {K : Type 0} → ℕ → List (K × ℕ) → List (K × ℕ)
scaled zero entries = []
scaled (suc n) entries = map (λ entry. (entry.0, entry.1 * suc n)) entries

-- the image along a finite map of keys, a list of pairs of a key and the key that it goes to
abbrev pub image_of : {K L : Type 0} → (K → K → Ordering) → (L → L → Ordering) → List (K × L) → List (K × ℕ) → List (L × ℕ)
image_of cmp to_cmp [] entries = []
image_of cmp to_cmp (pair ∷ rest) entries = added to_cmp (image_of cmp to_cmp rest entries) pair.1 (count_of cmp entries pair.0)

-- the sum of the counts of the keys that go to the new key
abbrev pub image_count : {K L : Type 0} → (K → K → Ordering) → (L → L → Ordering) → List (K × L) → List (K × ℕ) → L → ℕ
image_count cmp to_cmp [] entries key = 0
image_count cmp to_cmp (pair ∷ rest) entries key =
    count_in to_cmp (pair.1, count_of cmp entries pair.0) key + image_count cmp to_cmp rest entries key

-- no two pairs of the map go to the same key
abbrev pub IsOneToOne : {K L : Type 0} → (L → L → Ordering) → List (K × L) → Type 0
IsOneToOne to_cmp [] = Unit {0}
IsOneToOne to_cmp (pair ∷ rest) = Every (λ other. to_cmp pair.1 other.1 ≢ Equal) rest × IsOneToOne to_cmp rest

-- the map has the key
abbrev pub HasKey : {K L : Type 0} → (K → K → Ordering) → List (K × L) → K → Type 0
HasKey cmp [] key = ⊥
HasKey cmp (pair ∷ rest) key = (cmp key pair.0 ≡ Equal) ⊎ HasKey cmp rest key

-- the map has each key of the multiset
abbrev pub HasEachKey : {K L : Type 0} → (K → K → Ordering) → List (K × L) → List (K × ℕ) → Type 0
HasEachKey cmp pairs entries = (key : _) → 0 < count_of cmp entries key → HasKey cmp pairs key
