-- The operators of terms: the name of each one's element, the first kind of nets that has it, and how many arguments it
-- takes (ISO/IEC 15909-2, terms of symmetric nets and of high-level nets).
use Rattle.std.specs.Prelude.{IsTrue, ℕ, List, codes, Bool, true, false, Option, None, Some}
use Rattle.pn_operators.specs.declared.kind.Kind.{Kind}
use Rattle.pn_operators.specs.declared.kind.Kind.TheVariants as kind
use Rattle.pn_operators.specs.declared.op.Op.{Op}
use Rattle.pn_operators.specs.declared.op.Op.TheVariants as op

-- the name of an operator's element
abbrev pub name_of : Op → List ℕ
name_of op.DotConstant = codes "dotconstant"
name_of op.And = codes "and"
name_of op.Or = codes "or"
name_of op.Not = codes "not"
name_of op.Imply = codes "imply"
name_of op.Equality = codes "equality"
name_of op.Inequality = codes "inequality"
name_of op.Successor = codes "successor"
name_of op.Predecessor = codes "predecessor"
name_of op.LessThan = codes "lessthan"
name_of op.LessThanOrEqual = codes "lessthanorequal"
name_of op.GreaterThan = codes "greaterthan"
name_of op.GreaterThanOrEqual = codes "greaterthanorequal"
name_of op.Ltp = codes "ltp"
name_of op.Gtp = codes "gtp"
name_of op.Tuple = codes "tuple"
name_of op.NumberOf = codes "numberof"
name_of op.Add = codes "add"
name_of op.Subtract = codes "subtract"
name_of op.ScalarProduct = codes "scalarproduct"
name_of op.Addition = codes "addition"
name_of op.Subtraction = codes "subtraction"
name_of op.Mult = codes "mult"
name_of op.Div = codes "div"
name_of op.Mod = codes "mod"
name_of op.Lt = codes "lt"
name_of op.Leq = codes "leq"
name_of op.Gt = codes "gt"
name_of op.Geq = codes "geq"
name_of op.Cardinality = codes "cardinality"
name_of op.CardinalityOf = codes "cardinalityof"
name_of op.Contains = codes "contains"
name_of op.StringConcatenation = codes "stringconcatenation"
name_of op.StringLength = codes "stringlength"
name_of op.Lts = codes "lts"
name_of op.Leqs = codes "leqs"
name_of op.Gts = codes "gts"
name_of op.Geqs = codes "geqs"
name_of op.MakeList = codes "makelist"
name_of op.ListConcatenation = codes "listconcatenation"
name_of op.ListLength = codes "listlength"
name_of op.MemberAtIndex = codes "memberatindex"

-- the first kind of nets, in the order of the kinds, that has the operator
abbrev pub from_of : Op → Kind
from_of op.DotConstant = kind.Symmetric
from_of op.And = kind.Symmetric
from_of op.Or = kind.Symmetric
from_of op.Not = kind.Symmetric
from_of op.Imply = kind.Symmetric
from_of op.Equality = kind.Symmetric
from_of op.Inequality = kind.Symmetric
from_of op.Successor = kind.Symmetric
from_of op.Predecessor = kind.Symmetric
from_of op.LessThan = kind.Symmetric
from_of op.LessThanOrEqual = kind.Symmetric
from_of op.GreaterThan = kind.Symmetric
from_of op.GreaterThanOrEqual = kind.Symmetric
from_of op.Ltp = kind.Symmetric
from_of op.Gtp = kind.Symmetric
from_of op.Tuple = kind.Symmetric
from_of op.NumberOf = kind.Symmetric
from_of op.Add = kind.Symmetric
from_of op.Subtract = kind.Symmetric
from_of op.ScalarProduct = kind.Symmetric
from_of op.Addition = kind.HighLevel
from_of op.Subtraction = kind.HighLevel
from_of op.Mult = kind.HighLevel
from_of op.Div = kind.HighLevel
from_of op.Mod = kind.HighLevel
from_of op.Lt = kind.HighLevel
from_of op.Leq = kind.HighLevel
from_of op.Gt = kind.HighLevel
from_of op.Geq = kind.HighLevel
from_of op.Cardinality = kind.HighLevel
from_of op.CardinalityOf = kind.HighLevel
from_of op.Contains = kind.HighLevel
from_of op.StringConcatenation = kind.HighLevel
from_of op.StringLength = kind.HighLevel
from_of op.Lts = kind.HighLevel
from_of op.Leqs = kind.HighLevel
from_of op.Gts = kind.HighLevel
from_of op.Geqs = kind.HighLevel
from_of op.MakeList = kind.HighLevel
from_of op.ListConcatenation = kind.HighLevel
from_of op.ListLength = kind.HighLevel
from_of op.MemberAtIndex = kind.HighLevel

-- the least number of arguments
abbrev pub least_of : Op → ℕ
least_of op.DotConstant = 0
least_of op.And = 1
least_of op.Or = 1
least_of op.Not = 1
least_of op.Imply = 2
least_of op.Equality = 2
least_of op.Inequality = 2
least_of op.Successor = 1
least_of op.Predecessor = 1
least_of op.LessThan = 2
least_of op.LessThanOrEqual = 2
least_of op.GreaterThan = 2
least_of op.GreaterThanOrEqual = 2
least_of op.Ltp = 2
least_of op.Gtp = 2
least_of op.Tuple = 1
least_of op.NumberOf = 1
least_of op.Add = 1
least_of op.Subtract = 2
least_of op.ScalarProduct = 2
least_of op.Addition = 2
least_of op.Subtraction = 2
least_of op.Mult = 2
least_of op.Div = 2
least_of op.Mod = 2
least_of op.Lt = 2
least_of op.Leq = 2
least_of op.Gt = 2
least_of op.Geq = 2
least_of op.Cardinality = 1
least_of op.CardinalityOf = 2
least_of op.Contains = 2
least_of op.StringConcatenation = 2
least_of op.StringLength = 1
least_of op.Lts = 2
least_of op.Leqs = 2
least_of op.Gts = 2
least_of op.Geqs = 2
least_of op.MakeList = 1
least_of op.ListConcatenation = 2
least_of op.ListLength = 1
least_of op.MemberAtIndex = 2

-- the greatest number of arguments, where there is one
abbrev pub most_of : Op → Option ℕ
most_of op.DotConstant = Some 0
most_of op.And = None
most_of op.Or = None
most_of op.Not = Some 1
most_of op.Imply = Some 2
most_of op.Equality = Some 2
most_of op.Inequality = Some 2
most_of op.Successor = Some 1
most_of op.Predecessor = Some 1
most_of op.LessThan = Some 2
most_of op.LessThanOrEqual = Some 2
most_of op.GreaterThan = Some 2
most_of op.GreaterThanOrEqual = Some 2
most_of op.Ltp = Some 2
most_of op.Gtp = Some 2
most_of op.Tuple = None
most_of op.NumberOf = Some 2
most_of op.Add = None
most_of op.Subtract = None
most_of op.ScalarProduct = Some 2
most_of op.Addition = Some 2
most_of op.Subtraction = Some 2
most_of op.Mult = Some 2
most_of op.Div = Some 2
most_of op.Mod = Some 2
most_of op.Lt = Some 2
most_of op.Leq = Some 2
most_of op.Gt = Some 2
most_of op.Geq = Some 2
most_of op.Cardinality = Some 1
most_of op.CardinalityOf = Some 2
most_of op.Contains = Some 2
most_of op.StringConcatenation = Some 2
most_of op.StringLength = Some 1
most_of op.Lts = Some 2
most_of op.Leqs = Some 2
most_of op.Gts = Some 2
most_of op.Geqs = Some 2
most_of op.MakeList = None
most_of op.ListConcatenation = Some 2
most_of op.ListLength = Some 1
most_of op.MemberAtIndex = Some 2

-- whether a net of the second kind has what the first kind has: high-level nets have all that symmetric nets have
abbrev pub is_taken : Kind → Kind → Bool
is_taken kind.Symmetric kind.Symmetric = true
is_taken kind.Symmetric kind.HighLevel = true
is_taken kind.HighLevel kind.HighLevel = true
is_taken kind.PtNet _ = false
is_taken kind.Symmetric kind.PtNet = false
is_taken kind.HighLevel kind.PtNet = false
is_taken kind.HighLevel kind.Symmetric = false

-- nets of this kind have this operator
abbrev pub IsTaken : Op → Kind → Type 0
IsTaken o k = IsTrue (is_taken (from_of o) k)
