-- Finite multisets as lists of entries, each a key and its count (ISO/IEC 15909-1, multisets).
use Rattle.std.specs.Prelude.{◌≡◌, ℕ, ◌+◌, ◌<◌, ◌≤◌, List, [], ◌∷◌}
use Rattle.std.specs.Ordering.{match_ordering}
use Rattle.std.specs.declared.cmp.Ordering.{Ordering}
use Rattle.std.specs.declared.cmp.Ordering.TheVariants.{Less}

-- the count that one entry gives to a key: its own count, if the two keys compare Equal
abbrev pub count_in : {K : Type 0} → (K → K → Ordering) → K × ℕ → K → ℕ
count_in cmp entry key = match_ordering (cmp key entry.0) 0 entry.1 0

-- the count of a key: the sum of the counts that stand with it
abbrev pub count_of : {K : Type 0} → (K → K → Ordering) → List (K × ℕ) → K → ℕ
count_of cmp [] key = 0
count_of cmp (entry ∷ rest) key = count_in cmp entry key + count_of cmp rest key

-- each item has P
abbrev pub Every : {X : Type 0} → (X → Type 0) → List X → Type 0
Every P [] = Unit {0}
Every P (x ∷ xs) = P x × Every P xs

-- each key is below all later keys, so no key comes twice
abbrev pub IsRising : {K : Type 0} → (K → K → Ordering) → List (K × ℕ) → Type 0
IsRising cmp [] = Unit {0}
IsRising cmp (entry ∷ rest) = Every (λ later. cmp entry.0 later.0 ≡ Less) rest × IsRising cmp rest

-- each key has the same count in both
abbrev pub IsSame : {K : Type 0} → (K → K → Ordering) → List (K × ℕ) → List (K × ℕ) → Type 0
IsSame cmp xs ys = (key : _) → count_of cmp xs key ≡ count_of cmp ys key

-- each key has at most as great a count in `part` as in `whole`
abbrev pub Includes : {K : Type 0} → (K → K → Ordering) → List (K × ℕ) → List (K × ℕ) → Type 0
Includes cmp whole part = (key : _) → count_of cmp part key ≤ count_of cmp whole key

-- a finite map from keys to counts: the keys rise, and no count is 0
pub record IsMultiset {K : Type 0} (cmp : K → K → Ordering) (entries : List (K × ℕ)) : Type 0 where
  pub rising : IsRising cmp entries
  pub positive : Every (λ entry. 0 < entry.1) entries
