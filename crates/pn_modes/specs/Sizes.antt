-- The sorts of the variables of a transition, and which of them have too many values to be searched.
use Rattle.std.specs.Prelude.{ℕ, Bool, true, nat_lt, List, Option, None, Some}
use Rattle.std.specs.List.{AllZip}
use Rattle.pn_carriers.specs.Sizes.{size_of}
use Rattle.pn_net.specs.Typed.{AreVariablesAt}
use Rattle.pn_net.specs.declared.flat.Flat.{Flat}
use Rattle.pn_sorts.specs.Lookups.{IsVariableSort}
use Rattle.pn_values.specs.declared.sort.Sort.{Sort}

-- the variables of a transition, and their sorts
pub record HaveSortsAt (f : Flat) (t : ℕ) (vars : List ℕ) (sorts : List Sort) : Type 0 where
  pub variables : AreVariablesAt f t vars
  pub are_sorts : AllZip (IsVariableSort f.declarations) vars sorts

-- the most values of a sort that are searched
abbrev pub most_values : ℕ
most_values = 16777216

-- the most assignments of a transition that are listed
abbrev pub most_assignments : ℕ
most_assignments = 16777216

-- more values than are searched, where this is their number; infinitely many are more
abbrev pub are_many : Option ℕ → Bool
are_many None = true
are_many (Some n) = nat_lt most_values n

-- a sort of more values than are searched
abbrev pub is_large : List ℕ → Sort → Bool
is_large widths sort = are_many (size_of widths sort)
