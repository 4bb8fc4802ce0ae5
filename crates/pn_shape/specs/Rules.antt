-- The table of elements: what stands in each, in which kinds of nets (ISO/IEC 15909-2, in this project's profile).
use Rattle.std.specs.Prelude.{ℕ, zero, suc, List, [], ◌∷◌, ◌++◌, map, codes, Bool, true, false, Option, None, Some, ◌&&◌}
use Rattle.std.specs.Str.{bytes_eq}
use Rattle.pn_operators.specs.Operators.{name_of, from_of, least_of, most_of, is_taken}
use Rattle.pn_operators.specs.Rows.{all_operators}
use Rattle.pn_operators.specs.declared.kind.Kind.{Kind}
use Rattle.pn_operators.specs.declared.kind.Kind.TheVariants as kind
use Rattle.pn_operators.specs.declared.op.Op.{Op}
use Rattle.pn_shape.specs.declared.tag.Tag.{Tag}
use Rattle.pn_shape.specs.declared.tag.Tag.TheVariants as tag
use Rattle.pn_shape.specs.declared.rule.Kinds.{Kinds}
use Rattle.pn_shape.specs.declared.rule.Kinds.TheVariants as kinds
use Rattle.pn_shape.specs.declared.rule.Content.{Content}
use Rattle.pn_shape.specs.declared.rule.Content.TheVariants as contents
use Rattle.pn_shape.specs.declared.rule.AttrRule.{AttrRule}
use Rattle.pn_shape.specs.declared.rule.AttrName.{AttrName}
use Rattle.pn_shape.specs.declared.rule.AttrName.TheVariants as attr
use Rattle.pn_shape.specs.declared.rule.Fill.{Fill}
use Rattle.pn_shape.specs.declared.rule.Fill.TheVariants as fill
use Rattle.pn_shape.specs.declared.rule.Over.TheVariants as over
use Rattle.pn_shape.specs.declared.rule.Slot.{Slot}
use Rattle.pn_shape.specs.declared.rule.Rule.{Rule}
use Rattle.pn_shape.specs.declared.rows.TheConstants as table

-- what a row says of its element: its name, the kinds of nets that have it, what may stand in it, and its attributes and the
-- places for elements in it, in the order in which they are written
pub record Saying : Type 0 where
  pub name : List ℕ
  pub kinds : Kinds
  pub content : Content
  pub attrs : List AttrRule
  pub slots : List Slot

abbrev pub says : List ℕ → Kinds → Content → List AttrRule → List Slot → Saying
says name kinds content attrs slots = record { name = name; kinds = kinds; content = content; attrs = attrs; slots = slots }

-- what a row of the code says
abbrev pub said_by : Rule → Saying
said_by r = says r.name.now r.kinds r.content r.attrs.now r.slots.now

-- a place for so many elements of one name
abbrev pub slot_of : Tag → ℕ → Option ℕ → Slot
slot_of t least most = record { fill = fill.One t; least = least; most = most; over = over.Repeated }

-- each argument of an operator stands in a `subterm`; an operator without arguments has no place for one
abbrev pub slots_between : ℕ → Option ℕ → List Slot
slots_between least (Some zero) = []
slots_between least (Some (suc most)) = slot_of tag.Subterm least (Some (suc most)) ∷ []
slots_between least None = slot_of tag.Subterm least None ∷ []

abbrev pub argument_slots : Op → List Slot
argument_slots o = slots_between (least_of o) (most_of o)

-- the table. It isn't unfolded but where that is asked for, so that no goal computes all of it
unfoldable pub rule_for : Tag → Saying
rule_for tag.Pnml = says (codes "pnml") kinds.All contents.Elements table.PNML_ATTRS.now table.PNML_SLOTS.now
rule_for tag.Net = says (codes "net") kinds.All contents.Net table.NET_ATTRS.now table.NET_SLOTS.now
rule_for tag.Page = says (codes "page") kinds.All contents.Elements table.ID_ATTRS.now table.PAGE_SLOTS.now
rule_for tag.Place = says (codes "place") kinds.All contents.Elements table.ID_ATTRS.now table.PLACE_SLOTS.now
rule_for tag.Transition = says (codes "transition") kinds.All contents.Elements table.ID_ATTRS.now table.TRANSITION_SLOTS.now
rule_for tag.Arc = says (codes "arc") kinds.All contents.Elements table.ARC_ATTRS.now table.ARC_SLOTS.now
rule_for tag.ReferencePlace = says (codes "referencePlace") kinds.All contents.Elements table.REFERENCE_ATTRS.now table.HEAD_SLOTS.now
rule_for tag.ReferenceTransition = says (codes "referenceTransition") kinds.All contents.Elements table.REFERENCE_ATTRS.now table.HEAD_SLOTS.now
rule_for tag.Name = says (codes "name") kinds.All contents.Elements table.NO_ATTRS.now table.NAME_SLOTS.now
rule_for tag.InitialMarking = says (codes "initialMarking") kinds.Plain contents.Elements table.NO_ATTRS.now table.MARKING_SLOTS.now
rule_for tag.Inscription = says (codes "inscription") kinds.Plain contents.Elements table.NO_ATTRS.now table.WEIGHT_SLOTS.now
rule_for tag.Type = says (codes "type") (kinds.From kind.Symmetric) contents.Elements table.NO_ATTRS.now table.SORT_LABEL_SLOTS.now
rule_for tag.HlInitialMarking = says (codes "hlinitialMarking") (kinds.From kind.Symmetric) contents.Elements table.NO_ATTRS.now table.TERM_LABEL_SLOTS.now
rule_for tag.Condition = says (codes "condition") (kinds.From kind.Symmetric) contents.Elements table.NO_ATTRS.now table.TERM_LABEL_SLOTS.now
rule_for tag.HlInscription = says (codes "hlinscription") (kinds.From kind.Symmetric) contents.Elements table.NO_ATTRS.now table.TERM_LABEL_SLOTS.now
rule_for tag.Declaration = says (codes "declaration") (kinds.From kind.Symmetric) contents.Elements table.NO_ATTRS.now table.DECLARATION_SLOTS.now
rule_for tag.Text = says (codes "text") kinds.All contents.Characters table.NO_ATTRS.now table.NO_SLOTS.now
rule_for tag.MarkingText = says (codes "text") kinds.All (contents.Count 0) table.NO_ATTRS.now table.NO_SLOTS.now
rule_for tag.WeightText = says (codes "text") kinds.All (contents.Count 1) table.NO_ATTRS.now table.NO_SLOTS.now
rule_for tag.SortStructure = says (codes "structure") kinds.All contents.Elements table.NO_ATTRS.now table.SORT_SLOTS.now
rule_for tag.TermStructure = says (codes "structure") kinds.All contents.Elements table.NO_ATTRS.now table.TERM_SLOTS.now
rule_for tag.DeclarationStructure = says (codes "structure") kinds.All contents.Elements table.NO_ATTRS.now table.DECLARATIONS_SLOTS.now
rule_for tag.Declarations = says (codes "declarations") kinds.All contents.Elements table.NO_ATTRS.now table.DECLARED_SLOTS.now
rule_for tag.NamedSort = says (codes "namedsort") kinds.All contents.Elements table.NAMED_ATTRS.now table.BODY_SLOTS.now
rule_for tag.FiniteEnumeration = says (codes "finiteenumeration") kinds.All contents.Elements table.NO_ATTRS.now table.CONSTANTS_SLOTS.now
rule_for tag.CyclicEnumeration = says (codes "cyclicenumeration") kinds.All contents.Elements table.NO_ATTRS.now table.CONSTANTS_SLOTS.now
rule_for tag.FeConstant = says (codes "feconstant") kinds.All contents.Elements table.NAMED_ATTRS.now table.NO_SLOTS.now
rule_for tag.VariableDecl = says (codes "variabledecl") kinds.All contents.Elements table.NAMED_ATTRS.now table.SORT_SLOTS.now
rule_for tag.Partition = says (codes "partition") kinds.All contents.Elements table.NAMED_ATTRS.now table.PARTITION_SLOTS.now
rule_for tag.PartitionElement = says (codes "partitionelement") kinds.All contents.Elements table.NAMED_ATTRS.now table.VALUES_SLOTS.now
rule_for tag.Dot = says (codes "dot") (kinds.From kind.Symmetric) contents.Elements table.NO_ATTRS.now table.NO_SLOTS.now
rule_for tag.Bool = says (codes "bool") (kinds.From kind.Symmetric) contents.Elements table.NO_ATTRS.now table.NO_SLOTS.now
rule_for tag.FiniteIntRange = says (codes "finiteintrange") (kinds.From kind.Symmetric) contents.Elements table.RANGE_ATTRS.now table.NO_SLOTS.now
rule_for tag.ProductSort = says (codes "productsort") (kinds.From kind.Symmetric) contents.Elements table.NO_ATTRS.now table.SORTS_SLOTS.now
rule_for tag.UserSort = says (codes "usersort") (kinds.From kind.Symmetric) contents.Elements table.DECLARATION_ATTRS.now table.NO_SLOTS.now
rule_for tag.Integer = says (codes "integer") (kinds.From kind.HighLevel) contents.Elements table.NO_ATTRS.now table.NO_SLOTS.now
rule_for tag.Natural = says (codes "natural") (kinds.From kind.HighLevel) contents.Elements table.NO_ATTRS.now table.NO_SLOTS.now
rule_for tag.Positive = says (codes "positive") (kinds.From kind.HighLevel) contents.Elements table.NO_ATTRS.now table.NO_SLOTS.now
rule_for tag.StringSort = says (codes "string") (kinds.From kind.HighLevel) contents.Elements table.NO_ATTRS.now table.NO_SLOTS.now
rule_for tag.ListSort = says (codes "list") (kinds.From kind.HighLevel) contents.Elements table.NO_ATTRS.now table.SORT_SLOTS.now
rule_for tag.OfIntegers = says (codes "integer") (kinds.From kind.Symmetric) contents.Elements table.NO_ATTRS.now table.NO_SLOTS.now
rule_for tag.OfNaturals = says (codes "natural") (kinds.From kind.Symmetric) contents.Elements table.NO_ATTRS.now table.NO_SLOTS.now
rule_for tag.OfPositives = says (codes "positive") (kinds.From kind.Symmetric) contents.Elements table.NO_ATTRS.now table.NO_SLOTS.now
rule_for tag.MultisetSort = says (codes "multisetsort") (kinds.From kind.Symmetric) contents.Elements table.NO_ATTRS.now table.SORT_SLOTS.now
rule_for tag.Variable = says (codes "variable") (kinds.From kind.Symmetric) contents.Elements table.VARIABLE_ATTRS.now table.NO_SLOTS.now
rule_for tag.UserOperator = says (codes "useroperator") (kinds.From kind.Symmetric) contents.Elements table.DECLARATION_ATTRS.now table.NO_SLOTS.now
rule_for tag.BooleanConstant = says (codes "booleanconstant") (kinds.From kind.Symmetric) contents.Elements table.TRUTH_ATTRS.now table.NO_SLOTS.now
rule_for tag.NumberConstant = says (codes "numberconstant") (kinds.From kind.Symmetric) contents.Elements table.NUMBER_ATTRS.now table.NUMBER_SORT_SLOTS.now
rule_for tag.FiniteIntRangeConstant = says (codes "finiteintrangeconstant") (kinds.From kind.Symmetric) contents.Elements table.NUMBER_ATTRS.now table.RANGE_SLOTS.now
rule_for tag.PartitionElementOf = says (codes "partitionelementof") (kinds.From kind.Symmetric) contents.Elements table.PARTITION_ATTRS.now table.ONE_SUBTERM.now
rule_for tag.All = says (codes "all") (kinds.From kind.Symmetric) contents.Elements table.NO_ATTRS.now table.BASIS_SLOTS.now
rule_for tag.Empty = says (codes "empty") (kinds.From kind.Symmetric) contents.Elements table.NO_ATTRS.now table.BASIS_SLOTS.now
rule_for tag.StringConstant = says (codes "stringconstant") (kinds.From kind.HighLevel) contents.Elements table.VALUE_ATTRS.now table.NO_SLOTS.now
rule_for tag.EmptyList = says (codes "emptylist") (kinds.From kind.HighLevel) contents.Elements table.NO_ATTRS.now table.SORT_SLOTS.now
rule_for tag.Subterm = says (codes "subterm") kinds.All contents.Elements table.NO_ATTRS.now table.TERM_SLOTS.now
rule_for tag.Graphics = says (codes "graphics") kinds.All contents.Opaque table.NO_ATTRS.now table.NO_SLOTS.now
rule_for tag.ToolSpecific = says (codes "toolspecific") kinds.All contents.Opaque table.NO_ATTRS.now table.NO_SLOTS.now
rule_for (tag.Operator o) = says (name_of o) (kinds.From (from_of o)) contents.Elements table.NO_ATTRS.now (argument_slots o)

-- whether nets of this kind have what the row says that these kinds have
abbrev pub are_had : Kinds → Kind → Bool
are_had kinds.All k = true
are_had kinds.Plain kind.PtNet = true
are_had kinds.Plain kind.Symmetric = false
are_had kinds.Plain kind.HighLevel = false
are_had (kinds.From first) k = is_taken first k

-- whether nets of this kind have the element
abbrev pub is_had : Kind → Tag → Bool
is_had k t = are_had (rule_for t).kinds k

-- whether nets of this kind have the element, and this is its name
abbrev pub is_named : Kind → List ℕ → Tag → Bool
is_named k name t = bytes_eq (rule_for t).name name && is_had k t

-- the elements that fill a place
abbrev pub alternatives : Fill → List Tag
alternatives (fill.One t) = t ∷ []
alternatives fill.Opaque = table.OPAQUE_TAGS.now
alternatives fill.Sort = table.SORTS.now
alternatives fill.Term = table.LEAVES.now ++ map tag.Operator all_operators
alternatives fill.Body = table.ENUMERATIONS.now ++ table.SORTS.now
alternatives fill.Basis = table.MULTISETS.now ++ table.SORTS.now
alternatives fill.NumberSort = table.NUMBER_SORTS.now
alternatives fill.Constant = table.CONSTANTS.now

-- how a place is called where its element is missing
abbrev pub fill_name : Fill → List ℕ
fill_name (fill.One t) = (rule_for t).name
fill_name fill.Opaque = codes "graphics"
fill_name fill.Sort = codes "sort"
fill_name fill.Term = codes "term"
fill_name fill.Body = codes "sort"
fill_name fill.Basis = codes "sort"
fill_name fill.NumberSort = codes "sort"
fill_name fill.Constant = codes "constant"

-- the names of attributes
abbrev pub attr_name : AttrName → List ℕ
attr_name attr.Xmlns = codes "xmlns"
attr_name attr.Id = codes "id"
attr_name attr.Type = codes "type"
attr_name attr.Name = codes "name"
attr_name attr.Source = codes "source"
attr_name attr.Target = codes "target"
attr_name attr.Ref = codes "ref"
attr_name attr.Declaration = codes "declaration"
attr_name attr.RefVariable = codes "refvariable"
attr_name attr.RefPartition = codes "refpartition"
attr_name attr.Value = codes "value"
attr_name attr.Start = codes "start"
attr_name attr.End = codes "end"
