-- Texts with commas between them, as they are put one after the other.
use Rattle.std.specs.Prelude.{ℕ, zero, suc, List, [], ◌∷◌, ◌++◌, codes, map}

-- what stands before the text at this place: a comma, but before the first
abbrev pub comma_before : ℕ → List ℕ
comma_before zero = []
comma_before (suc place) = codes ","

-- the texts, each but the first behind a comma
abbrev pub behind_commas : List (List ℕ) → List (List ℕ)
behind_commas [] = []
behind_commas (part ∷ parts) = part ∷ map (λ next. codes "," ++ next) parts
