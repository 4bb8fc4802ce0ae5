-- What comes of one more byte behind the digits of a number.
use Rattle.std.specs.Prelude.{◌≡◌, ℕ, ◌≤◌, Bool, true, false, List, [], ◌∷◌, ◌++◌, decimal}
use Rattle.std.specs.List.{Contains}
use Rattle.pn_words.specs.declared.numbers.Turn.{Turn}
use Rattle.pn_words.specs.declared.numbers.Turn.TheVariants as turns
use Rattle.pn_words.specs.Languages.{Closed}
use Rattle.pn_words.specs.Numbers.{Begins, Decimal}

-- the digits so far: none where the next byte is the first
abbrev pub so_far : Bool → ℕ → List ℕ
so_far true m = []
so_far false m = decimal m

-- more digits are those of the next number, with which one of the language begins; at the end a mark stands behind a number within the bounds; else no word goes on so
abbrev pub IsTurn : ℕ → ℕ → List ℕ → Bool → ℕ → ℕ → Turn → Type 0
IsTurn low high marks first m x (turns.Digits next) = (so_far first m ++ x ∷ [] ≡ decimal next) × Begins low high next
IsTurn low high marks first m x turns.End = (first ≡ false) × (low ≤ m) × Contains marks x
IsTurn low high marks first m x turns.Stop = (p : ℕ × ℕ) (rest : List ℕ) → Closed (Decimal low high) marks p (so_far first m ++ x ∷ rest) → ⊥
