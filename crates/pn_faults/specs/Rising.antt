-- Numbers that rise, as the offsets of a document do.
use Rattle.std.specs.Prelude.{ℕ, ◌<◌, List, [], ◌∷◌}
use Rattle.std.specs.List.{Contains}

-- each number is below all that follow it
abbrev pub Rise : List ℕ → Type 0
Rise [] = Unit {0}
Rise (n ∷ ns) = ((m : ℕ) → Contains ns m → n < m) × Rise ns
