-- Which faults of typing stand in a term (ISO/IEC 15909-2, terms, in this project's profile).
use Rattle.std.specs.Prelude.{◌≡◌, ◌⊎◌, ℕ, ℤ, List, [], ◌∷◌, codes, false, None, Some}
use Rattle.pn_faults.specs.declared.fault.Fault.{Fault}
use Rattle.pn_faults.specs.Order.{fault_at}
use Rattle.pn_faults.specs.Standing.{IsLeastOf}
use Rattle.pn_faults.specs.declared.reason.Reason.TheVariants as reasons
use Rattle.pn_syntax.specs.declared.declaration.Declaration.{Declaration}
use Rattle.pn_values.specs.declared.sort.Sort.{Sort}
use Rattle.pn_syntax.specs.declared.sort_expr.SortExpr.{SortExpr}
use Rattle.pn_names.specs.Names.{constant_named, partition_named, variable_named}
use Rattle.pn_operators.specs.declared.op.Op.{Op}
use Rattle.pn_operators.specs.Operators.{name_of}
use Rattle.pn_resolve.specs.Meaning.{Resolves}
use Rattle.pn_resolve.specs.Standing.{StandsInSort as SortFault}
use Rattle.pn_sorts.specs.Lookups.{IsBaseSort}
use Rattle.pn_syntax.specs.declared.term.NumberSort.{NumberSort}
use Rattle.pn_syntax.specs.declared.term.Term.{Term}
use Rattle.pn_terms.specs.declared.term_sort.TermSort.{TermSort}
use Rattle.pn_terms.specs.declared.term_sort.TermSort.TheVariants as terms
use Rattle.pn_syntax.specs.declared.term.TermNode.TheOpen as layer
use Rattle.pn_terms.specs.Rows.{Fits}
use Rattle.pn_terms.specs.Sorts.{HaveSorts, is_good_number, is_good_text, is_in_range, is_small}
use Rattle.pn_terms.specs.Terms.{IsPart, Layer, layer_of, parts_of}

-- no variable has this name
abbrev pub IsUnknownVariable : List Declaration → List ℕ → ℕ → Fault → Type 0
IsUnknownVariable items name at f = (variable_named items name ≡ None) × (f ≡ fault_at reasons.UnknownVariable at name)

-- neither a constant nor an element of a partition has this name
abbrev pub IsUnknownOperator : List Declaration → List ℕ → ℕ → Fault → Type 0
IsUnknownOperator items name at f = (constant_named items name ≡ None) × (f ≡ fault_at reasons.UnknownOperator at name)

-- no partition has this name
abbrev pub IsUnknownPartition : List Declaration → List ℕ → ℕ → Fault → Type 0
IsUnknownPartition items name at f = (partition_named items name ≡ None) × (f ≡ fault_at reasons.UnknownPartition at name)

-- a number is not of the sort that its constant names
abbrev pub IsBadNumber : List Declaration → ℤ → NumberSort → ℕ → Fault → Type 0
IsBadNumber items value sort at f = (is_good_number items value sort ≡ false) × (f ≡ fault_at reasons.BadConstant at (codes "numberconstant"))

-- a number is not in the range that its constant names
abbrev pub IsOutside : List Declaration → ℤ → ℤ → ℤ → ℕ → Fault → Type 0
IsOutside items value start end at f = (is_in_range items value start end ≡ false) × (f ≡ fault_at reasons.BadConstant at (codes "finiteintrangeconstant"))

-- a text has a character that a document may not have
abbrev pub IsBadText : List Declaration → List ℕ → ℕ → Fault → Type 0
IsBadText items text at f = (is_good_text items text ≡ false) × (f ≡ fault_at reasons.BadConstant at (codes "stringconstant"))

-- the sort of which all values are taken is infinite, or has too many
abbrev pub IsTooLarge : List Declaration → SortExpr → ℕ → Fault → Type 0
IsTooLarge items e at f = (sort : Sort) × Resolves items e sort × (is_small items sort ≡ false) × (f ≡ fault_at reasons.AllTooLarge at (codes "all"))

-- the partition of this name has another base sort
abbrev pub IsWrongElement : List Declaration → List ℕ → List TermSort → ℕ → Fault → Type 0
IsWrongElement items name ts at f = (p : ℕ) × (base : Sort) × (partition_named items name ≡ Some p) × IsBaseSort items p base × (ts ≡ terms.Basis base ∷ [] → ⊥) × (f ≡ fault_at reasons.WrongSort at (codes "partitionelementof"))

-- arguments of these sorts do not fit the operator
abbrev pub IsWrongFor : List Declaration → Op → List TermSort → ℕ → Fault → Type 0
IsWrongFor items op ts at f = (Fits items op ts → ⊥) × (f ≡ fault_at reasons.WrongSort at (name_of op))

-- a layer at this offset has this fault, whatever its parts are
abbrev pub StandsAlways : List Declaration → Layer → ℕ → Fault → Type 0
StandsAlways items (layer.Variable name) at f = IsUnknownVariable items name at f
StandsAlways items (layer.UserOp name) at f = IsUnknownOperator items name at f
StandsAlways items (layer.Bool truth) at f = ⊥
StandsAlways items (layer.Number value sort) at f = IsBadNumber items value sort at f
StandsAlways items (layer.RangeConst value start end) at f = IsOutside items value start end at f
StandsAlways items (layer.Text text) at f = IsBadText items text at f
StandsAlways items (layer.All e) at f = IsTooLarge items e at f
StandsAlways items (layer.Empty e) at f = ⊥
StandsAlways items (layer.EmptyList e) at f = ⊥
StandsAlways items (layer.PartitionOf name arg) at f = IsUnknownPartition items name at f
StandsAlways items (layer.Apply op args) at f = ⊥

-- a layer at this offset has this fault, where its parts have these sorts
abbrev pub StandsWith : List Declaration → Layer → List TermSort → ℕ → Fault → Type 0
StandsWith items (layer.Variable name) ts at f = ⊥
StandsWith items (layer.UserOp name) ts at f = ⊥
StandsWith items (layer.Bool truth) ts at f = ⊥
StandsWith items (layer.Number value sort) ts at f = ⊥
StandsWith items (layer.RangeConst value start end) ts at f = ⊥
StandsWith items (layer.Text text) ts at f = ⊥
StandsWith items (layer.All e) ts at f = ⊥
StandsWith items (layer.Empty e) ts at f = ⊥
StandsWith items (layer.EmptyList e) ts at f = ⊥
StandsWith items (layer.PartitionOf name arg) ts at f = IsWrongElement items name ts at f
StandsWith items (layer.Apply op args) ts at f = IsWrongFor items op ts at f

-- the term itself has this fault: an unknown name or a bad constant; or each of its arguments has a sort, and they do not fit
abbrev pub StandsAt : List Declaration → Term → Fault → Type 0
StandsAt items e f = StandsAlways items (layer_of e) e.at f ⊎ ((ts : List TermSort) × HaveSorts items (parts_of e) ts × StandsWith items (layer_of e) ts e.at f)

-- the term or a term in it has this fault
abbrev pub StandsIn : List Declaration → Term → Fault → Type 0
StandsIn items e f = (x : Term) × IsPart e x × StandsAt items x f

-- the sort that a layer writes has this fault
abbrev pub SortStandsAt : List Declaration → Layer → Fault → Type 0
SortStandsAt items (layer.Variable name) f = ⊥
SortStandsAt items (layer.UserOp name) f = ⊥
SortStandsAt items (layer.Bool truth) f = ⊥
SortStandsAt items (layer.Number value sort) f = ⊥
SortStandsAt items (layer.RangeConst value start end) f = ⊥
SortStandsAt items (layer.Text text) f = ⊥
SortStandsAt items (layer.All e) f = SortFault items e f
SortStandsAt items (layer.Empty e) f = SortFault items e f
SortStandsAt items (layer.EmptyList e) f = SortFault items e f
SortStandsAt items (layer.PartitionOf name arg) f = ⊥
SortStandsAt items (layer.Apply op args) f = ⊥

-- a sort that the term or a term in it writes has this fault
abbrev pub SortStandsIn : List Declaration → Term → Fault → Type 0
SortStandsIn items e f = (x : Term) × IsPart e x × SortStandsAt items (layer_of x) f

-- no fault stands in the sorts that a term writes
abbrev pub HasSoundSorts : List Declaration → Term → Type 0
HasSoundSorts items e = IsLeastOf (SortStandsIn items e) None
