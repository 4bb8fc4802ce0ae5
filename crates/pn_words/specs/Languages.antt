-- Languages as relations between values and words, and what it is to read one from the front of some bytes.
use Rattle.std.specs.Prelude.{◌≡◌, ◌⊎◌, ℕ, suc, ◌+◌, ◌<◌, ◌≤◌, ◌==◌, Bool, true, not, List, [], ◌∷◌, ◌++◌, length, take, Some, if◌then◌else◌}
use Rattle.std.specs.List.{Contains, list_all, list_any, slice_get}
use Rattle.std.specs.declared.result.Result.{Result}
use Rattle.std.specs.declared.result.Result.TheVariants.{Ok, Err}

-- how many bytes two lists share from the front
abbrev pub same : List ℕ → List ℕ → ℕ
same [] b = 0
same (x ∷ w) [] = 0
same (x ∷ w) (y ∷ b) = if x == y then suc (same w b) else 0

-- neither begins the other
pub record Apart (w x : List ℕ) : Type 0 where
  pub first : same w x < length w
  pub second : same w x < length x

-- the bytes begin with a word of the value, with these bytes behind it, and each other word differs from that word inside both
pub record IsRead {V : Type 0} (L : V → List ℕ → Type 0) (b : List ℕ) (v : V) (rest : List ℕ) : Type 0 where
  pub word : List ℕ
  pub is_word : L v word
  pub cut : b ≡ word ++ rest
  pub only : (u : V) (w : List ℕ) → L u w → ((u ≡ v) × (w ≡ word)) ⊎ Apart w word

-- the word differs from the bytes before its end, and when it does at least so many of them are left
pub record Falls (w b : List ℕ) (left : ℕ) : Type 0 where
  pub short : same w b < length w
  pub by : same w b + left ≤ length b

-- all bytes are left, or some word shares with them all but so many
abbrev pub SharesUpTo : {V : Type 0} → (V → List ℕ → Type 0) → List ℕ → ℕ → Type 0
SharesUpTo {V} L b left = (left ≡ length b) ⊎ ((v : V) × (w : List ℕ) × L v w × (length b ≤ same w b + left))

-- the bytes begin with no word, and behind the longest front of them that begins a word so many are left
pub record Broken {V : Type 0} (L : V → List ℕ → Type 0) (b : List ℕ) (left : ℕ) : Type 0 where
  pub within : left ≤ length b
  pub reach : SharesUpTo L b left
  pub only : (u : V) (w : List ℕ) → L u w → Falls w b left

-- a word was read, its value and the bytes behind it answered; else the number of bytes left, as they are broken for the language
abbrev pub Reads : {V T : Type 0} → (V → List ℕ → Type 0) → List ℕ → (T → V) → (T → List ℕ) → Result T ℕ → Type 0
Reads L b value rest (Ok x) = IsRead L b (value x) (rest x)
Reads L b value rest (Err left) = Broken L b left

-- a word of the first, and behind it a word of the second, which may depend on the value of the first
abbrev pub Then : {V W : Type 0} → (V → List ℕ → Type 0) → (V → W → List ℕ → Type 0) → V × W → List ℕ → Type 0
Then L M p w = (a : List ℕ) × (b : List ℕ) × L p.0 a × M p.0 p.1 b × (w ≡ a ++ b)

-- what is read of the second language at the later bytes is read of the first at the bytes, with that value
pub record Continues {V W : Type 0} (L : V → List ℕ → Type 0) (b : List ℕ) (M : W → List ℕ → Type 0) (c : List ℕ) (f : W → V) : Type 0 where
  pub found : (u : W) (rest : List ℕ) → IsRead M c u rest → IsRead L b (f u) rest
  pub broken : (left : ℕ) → Broken M c left → Broken L b left

-- bytes with which some word begins
abbrev pub IsWordFront : {V : Type 0} → (V → List ℕ → Type 0) → List ℕ → Type 0
IsWordFront {V} L p = (v : V) × (rest : List ℕ) × L v (p ++ rest)

-- the number of bytes of the longest front that begins a word, and 0 where there is no word
pub record IsBadPlace {V : Type 0} (L : V → List ℕ → Type 0) (b : List ℕ) (k : ℕ) : Type 0 where
  pub within : k ≤ length b
  pub front : (k ≡ 0) ⊎ IsWordFront L (take k b)
  pub greatest : (j : ℕ) → k < j → j ≤ length b → IsWordFront L (take j b) → ⊥

-- a word of either language
abbrev pub Either : {V : Type 0} → (V → List ℕ → Type 0) → (V → List ℕ → Type 0) → V → List ℕ → Type 0
Either L M v w = L v w ⊎ M v w

-- the one word of the one value
abbrev pub Only : List ℕ → Unit {0} → List ℕ → Type 0
Only text u w = w ≡ text

-- a text, and behind it one of these marks
abbrev pub Closed : {V : Type 0} → (V → List ℕ → Type 0) → List ℕ → V × ℕ → List ℕ → Type 0
Closed L marks p w = (t : List ℕ) × L p.0 t × Contains marks p.1 × (w ≡ t ++ p.1 ∷ [])

-- one of these marks
abbrev pub Mark : List ℕ → ℕ → List ℕ → Type 0
Mark marks c w = Contains marks c × (w ≡ c ∷ [])

-- one of the first so many texts of a list, by its place
abbrev pub Listed : List (List ℕ) → ℕ → ℕ → List ℕ → Type 0
Listed texts n i t = (i < n) × (slice_get texts i ≡ Some t)

-- a byte that is none of the marks
abbrev pub is_unmarked : List ℕ → ℕ → Bool
is_unmarked marks b = not (list_any (λ m. m == b) marks)

-- each text is of other bytes than the marks, and no text stands twice
pub record AreApart (texts : List (List ℕ)) (marks : List ℕ) : Type 0 where
  pub unmarked : (i : ℕ) (t : List ℕ) → slice_get texts i ≡ Some t → list_all (is_unmarked marks) t ≡ true
  pub once : (i j : ℕ) (t : List ℕ) → slice_get texts i ≡ Some t → slice_get texts j ≡ Some t → i ≡ j
