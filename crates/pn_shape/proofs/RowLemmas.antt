-- How many places an element has.
use Rattle.std.proofs.Common.{ℕ, zero, suc, ◌≤◌, length, Option, Some, None, arith}
use Rattle.pn_operators.specs.Operators.{least_of, most_of}
use Rattle.pn_shape.specs.Rules.{rule_for, slots_between}
use Rattle.pn_shape.specs.declared.tag.Tag.{Tag}
use Rattle.pn_shape.specs.declared.tag.Tag.TheVariants as tag

few_between : (least : ℕ) (most : Option ℕ) → length (slots_between least most) ≤ 9
few_between least (Some zero) = omega arith
few_between least (Some (suc most)) = omega arith
few_between least None = omega arith

-- a row has nine places at most
pub few_slots : (t : Tag) → length (rule_for t).slots ≤ 9
unfolding rule_for
few_slots tag.Pnml = omega arith
few_slots tag.Net = omega arith
few_slots tag.Page = omega arith
few_slots tag.Place = omega arith
few_slots tag.Transition = omega arith
few_slots tag.Arc = omega arith
few_slots tag.ReferencePlace = omega arith
few_slots tag.ReferenceTransition = omega arith
few_slots tag.Name = omega arith
few_slots tag.InitialMarking = omega arith
few_slots tag.Inscription = omega arith
few_slots tag.Type = omega arith
few_slots tag.HlInitialMarking = omega arith
few_slots tag.Condition = omega arith
few_slots tag.HlInscription = omega arith
few_slots tag.Declaration = omega arith
few_slots tag.Text = omega arith
few_slots tag.MarkingText = omega arith
few_slots tag.WeightText = omega arith
few_slots tag.SortStructure = omega arith
few_slots tag.TermStructure = omega arith
few_slots tag.DeclarationStructure = omega arith
few_slots tag.Declarations = omega arith
few_slots tag.NamedSort = omega arith
few_slots tag.FiniteEnumeration = omega arith
few_slots tag.CyclicEnumeration = omega arith
few_slots tag.FeConstant = omega arith
few_slots tag.VariableDecl = omega arith
few_slots tag.Partition = omega arith
few_slots tag.PartitionElement = omega arith
few_slots tag.Dot = omega arith
few_slots tag.Bool = omega arith
few_slots tag.FiniteIntRange = omega arith
few_slots tag.ProductSort = omega arith
few_slots tag.UserSort = omega arith
few_slots tag.Integer = omega arith
few_slots tag.Natural = omega arith
few_slots tag.Positive = omega arith
few_slots tag.StringSort = omega arith
few_slots tag.ListSort = omega arith
few_slots tag.OfIntegers = omega arith
few_slots tag.OfNaturals = omega arith
few_slots tag.OfPositives = omega arith
few_slots tag.MultisetSort = omega arith
few_slots tag.Variable = omega arith
few_slots tag.UserOperator = omega arith
few_slots tag.BooleanConstant = omega arith
few_slots tag.NumberConstant = omega arith
few_slots tag.FiniteIntRangeConstant = omega arith
few_slots tag.PartitionElementOf = omega arith
few_slots tag.All = omega arith
few_slots tag.Empty = omega arith
few_slots tag.StringConstant = omega arith
few_slots tag.EmptyList = omega arith
few_slots tag.Subterm = omega arith
few_slots tag.Graphics = omega arith
few_slots tag.ToolSpecific = omega arith
few_slots (tag.Operator o) = few_between (least_of o) (most_of o)
