-- The words that tell how often a mode occurs.
use Rattle.std.specs.Prelude.{◌≡◌, ℕ, ◌<◌, ◌≤◌, ◌⊎◌, List, ◌++◌, codes, decimal}
use Rattle.pn_marking.specs.Modes.{IsAssigned}
use Rattle.pn_net.specs.declared.flat.Flat.{Flat}
use Rattle.pn_net.specs.declared.mode.Mode.{Mode}
use Rattle.pn_mode_text.specs.Texts.{IsModeText}

-- the word tells this number of times what the text tells: the text alone once; or the number, which is from 1 to 2^63 - 1, in decimal without leading zeros,
-- `*`, and the text
abbrev pub IsCountedText : ℕ → List ℕ → List ℕ → Type 0
IsCountedText count text w = ((count ≡ 1) × (w ≡ text)) ⊎ ((0 < count) × (count ≤ 9223372036854775807) × (w ≡ decimal count ++ (codes "*" ++ text)))

-- the word tells this number of times this transition of the net with one value of its sort for each of its variables; whether the condition holds is not asked
pub record IsModeWord (f : Flat) (w : List ℕ) (count : ℕ) (mode : Mode) : Type 0 where
  pub assigned : (vars : List ℕ) × IsAssigned f mode vars
  pub text : List ℕ
  pub is_text : IsModeText f mode text
  pub is_word : IsCountedText count text w
