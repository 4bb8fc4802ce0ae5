-- One value of each carrier (ISO/IEC 15909-1, modes), and of each of the first carriers.
use Rattle.std.specs.Prelude.{ℕ, List, [], ◌∷◌}
use Rattle.std.specs.List.{AllZip, Contains, slice_index_or}
use Rattle.pn_values.specs.declared.value.Value.{Value}

-- the carrier at a place, and the empty one behind the last
abbrev pub carrier_at : List (List Value) → ℕ → List Value
carrier_at cs n = slice_index_or cs n []

-- a value of each carrier, in their order
abbrev pub IsChoice : List (List Value) → List Value → Type 0
IsChoice cs vs = AllZip Contains cs vs

-- a value of each of the first carriers
abbrev pub IsFrontOf : List (List Value) → List Value → Type 0
IsFrontOf cs [] = Unit {0}
IsFrontOf [] (v ∷ vs) = ⊥
IsFrontOf (c ∷ cs) (v ∷ vs) = Contains c v × IsFrontOf cs vs
