-- What the table of operators tells.
use Rattle.std.specs.Prelude.{◌≡◌, ℕ, List, [], ◌∷◌, map, Bool, ◌&&◌, Option, None, Some, if◌then◌else◌}
use Rattle.std.specs.List.{AllByRecursion}
use Rattle.std.specs.Str.{bytes_eq}
use Rattle.pn_operators.specs.declared.kind.Kind.{Kind}
use Rattle.pn_operators.specs.declared.op.Op.{Op}
use Rattle.pn_operators.specs.declared.op.Op.TheVariants as op
use Rattle.pn_operators.specs.declared.row.OpRow.{OpRow}
use Rattle.pn_operators.specs.Operators.{name_of, from_of, least_of, most_of, is_taken}

-- the operators in their order
abbrev pub all_operators : List Op
all_operators = op.DotConstant ∷ op.And ∷ op.Or ∷ op.Not ∷ op.Imply ∷ op.Equality ∷ op.Inequality ∷ op.Successor ∷ op.Predecessor ∷ op.LessThan ∷ op.LessThanOrEqual ∷ op.GreaterThan ∷ op.GreaterThanOrEqual ∷ op.Ltp ∷ op.Gtp ∷ op.Tuple ∷ op.NumberOf ∷ op.Add ∷ op.Subtract ∷ op.ScalarProduct ∷ op.Addition ∷ op.Subtraction ∷ op.Mult ∷ op.Div ∷ op.Mod ∷ op.Lt ∷ op.Leq ∷ op.Gt ∷ op.Geq ∷ op.Cardinality ∷ op.CardinalityOf ∷ op.Contains ∷ op.StringConcatenation ∷ op.StringLength ∷ op.Lts ∷ op.Leqs ∷ op.Gts ∷ op.Geqs ∷ op.MakeList ∷ op.ListConcatenation ∷ op.ListLength ∷ op.MemberAtIndex ∷ []

-- the row tells of its operator what is so
pub record TellsOf (row : OpRow) : Type 0 where
  pub name : row.name.now ≡ name_of row.op
  pub from : row.from ≡ from_of row.op
  pub least : row.least ≡ least_of row.op
  pub most : row.most ≡ most_of row.op

-- the rows tell of each operator, in their order
pub record IsTable (rows : List OpRow) : Type 0 where
  pub whole : map (λ row. row.op) rows ≡ all_operators
  pub tells : AllByRecursion TellsOf rows

-- the row has this name and is taken in this kind of nets
abbrev pub is_found : List ℕ → Kind → OpRow → Bool
is_found name k row = bytes_eq row.name.now name && is_taken row.from k

-- the operator of the first row that is found
abbrev pub found_in : List ℕ → Kind → List OpRow → Option Op
found_in name k [] = None
found_in name k (row ∷ rows) = if is_found name k row then Some row.op else found_in name k rows
