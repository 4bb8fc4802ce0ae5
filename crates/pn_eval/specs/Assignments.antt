-- Assignments of values to variables (ISO/IEC 15909-1, modes): a list of variables by their numbers, and a value for each.
use Rattle.std.specs.Prelude.{◌≡◌, ◌==◌, ℕ, List, [], ◌∷◌, length, Option, None, Some, if◌then◌else◌}
use Rattle.std.specs.List.{Contains}
use Rattle.std.specs.List.Sorted.{IsStrictlyIncreasing}
use Rattle.pn_carriers.specs.Members.{IsMember}
use Rattle.pn_names.specs.Names.{widths_of}
use Rattle.pn_sorts.specs.Lookups.{IsVariableSort}
use Rattle.pn_syntax.specs.declared.declaration.Declaration.{Declaration}
use Rattle.pn_syntax.specs.declared.term.Term.{Term}
use Rattle.pn_terms.specs.Variables.{variables_in_term}
use Rattle.pn_values.specs.declared.sort.Sort.{Sort}
use Rattle.pn_values.specs.declared.value.Value.{Value}

-- the value of a variable: the one that stands at the variable's place
abbrev pub value_of_variable : List ℕ → List Value → ℕ → Option Value
value_of_variable [] values v = None
value_of_variable (x ∷ xs) [] v = None
value_of_variable (x ∷ xs) (value ∷ rest) v = if x == v then Some value else value_of_variable xs rest v

-- the variables ascend, and each has a value of its sort as it is declared
pub record IsAssignment (items : List Declaration) (vars : List ℕ) (values : List Value) : Type 0 where
  pub ascending : IsStrictlyIncreasing vars
  pub size : length values ≡ length vars
  pub members : (v : ℕ) (value : Value) (sort : Sort) → value_of_variable vars values v ≡ Some value → IsVariableSort items v sort → IsMember (widths_of items) value sort

-- each variable that stands in the term is one of these
abbrev pub Covers : List Declaration → List ℕ → Term → Type 0
Covers items vars e = (v : ℕ) → Contains (variables_in_term items e) v → Contains vars v
