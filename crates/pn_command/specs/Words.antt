-- The words of the command line.
use Rattle.std.specs.Prelude.{List, [], ◌∷◌, ℕ, codes, Option, None, Some, if◌then◌else◌}
use Rattle.std.specs.Str.{bytes_eq}
use Rattle.pn_command.specs.declared.words.Asked.{Asked}
use Rattle.pn_command.specs.declared.words.Asked.TheVariants.{Check, Flatten, Step, Modes}

-- the command of a word that stands alone
abbrev pub asked_alone : List ℕ → Option Asked
asked_alone word = if bytes_eq word (codes "check") then Some Check else (if bytes_eq word (codes "flatten") then Some Flatten else None)

-- the command of a word with several words behind it
abbrev pub asked_with_more : List ℕ → Option Asked
asked_with_more word = if bytes_eq word (codes "step") then Some Step else None

-- the command of a word with one word behind it
abbrev pub asked_with_one : List ℕ → Option Asked
asked_with_one word = if bytes_eq word (codes "modes") then Some Modes else asked_with_more word

-- the command that the words ask for: so far `check` or `flatten`, alone, `modes` with the id of a transition, and `step` with one or more modes
abbrev pub asked_of : List (List ℕ) → Option Asked
asked_of [] = None
asked_of (word ∷ []) = asked_alone word
asked_of (word ∷ next ∷ []) = asked_with_one word
asked_of (word ∷ next ∷ other ∷ words) = asked_with_more word

-- the word behind the command; empty where there is none
abbrev pub argument_of : List (List ℕ) → List ℕ
argument_of [] = []
argument_of (word ∷ []) = []
argument_of (word ∷ next ∷ words) = next

-- the words behind the command
abbrev pub arguments_of : List (List ℕ) → List (List ℕ)
arguments_of [] = []
arguments_of (word ∷ words) = words
