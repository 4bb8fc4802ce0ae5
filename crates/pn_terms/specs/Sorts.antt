-- The sort of a term (ISO/IEC 15909-2, terms): one case for each leaf, and for the operators their table. Natural and positive
-- numbers are integers.
use Rattle.std.specs.Prelude.{◌≡◌, ℕ, ℤ, List, [], ◌∷◌, Bool, true, false, nat_le, Option, None, Some}
use Rattle.pn_syntax.specs.declared.declaration.Declaration.{Declaration}
use Rattle.pn_values.specs.declared.constant_ref.ConstantRef.{ConstantRef}
use Rattle.pn_values.specs.declared.sort.Sort.{Sort}
use Rattle.pn_values.specs.declared.sort.Sort.TheVariants as sorts
use Rattle.pn_syntax.specs.declared.sort_expr.SortExpr.{SortExpr}
use Rattle.pn_values.specs.declared.value.Value.TheVariants as values
use Rattle.pn_values.specs.Kin.{kin_of}
use Rattle.pn_carriers.specs.Members.{is_member}
use Rattle.pn_carriers.specs.Sizes.{size_of}
use Rattle.pn_names.specs.Names.{constant_named, partition_named, variable_named, widths_of}
use Rattle.pn_resolve.specs.Meaning.{Resolves}
use Rattle.pn_sorts.specs.Lookups.{IsBaseSort, IsVariableSort, sort_of_constant}
use Rattle.pn_syntax.specs.declared.term.NumberSort.{NumberSort}
use Rattle.pn_syntax.specs.declared.term.NumberSort.TheVariants as numbers
use Rattle.pn_syntax.specs.declared.term.Term.{Term}
use Rattle.pn_terms.specs.declared.term_sort.TermSort.{TermSort}
use Rattle.pn_terms.specs.declared.term_sort.TermSort.TheVariants as terms
use Rattle.pn_syntax.specs.declared.term.TermNode.TheOpen as layer
use Rattle.pn_operators.specs.declared.op.Op.{Op}
use Rattle.pn_terms.specs.Rows.{Fits, given_by}
use Rattle.pn_terms.specs.Terms.{Layer, layer_of, parts_of}

-- the kin of the sort of the variable of this name
abbrev pub IsOfVariable : List Declaration → List ℕ → TermSort → Type 0
IsOfVariable items name s = (v : ℕ) × (sort : Sort) × (variable_named items name ≡ Some v) × IsVariableSort items v sort × (s ≡ terms.Basis (kin_of sort))

-- the enumeration or partition of the constant of this name
abbrev pub IsOfConstant : List Declaration → List ℕ → TermSort → Type 0
IsOfConstant items name s = (c : ConstantRef) × (sort : Sort) × (constant_named items name ≡ Some c) × (sort_of_constant items c ≡ Some sort) × (s ≡ terms.Basis sort)

-- the sort that a number constant names
abbrev pub number_sort : NumberSort → Sort
number_sort numbers.Integer = sorts.Integer
number_sort numbers.Natural = sorts.Natural
number_sort numbers.Positive = sorts.Positive

-- a number is of the sort that its constant names
abbrev pub is_good_number : List Declaration → ℤ → NumberSort → Bool
is_good_number items value sort = is_member (widths_of items) (number_sort sort) (values.Int value)

-- a number is in the range that its constant names
abbrev pub is_in_range : List Declaration → ℤ → ℤ → ℤ → Bool
is_in_range items value start end = is_member (widths_of items) (sorts.Range start end) (values.Int value)

-- a text is of the sort of texts: its characters are those that a document may have
abbrev pub is_good_text : List Declaration → List ℕ → Bool
is_good_text items text = is_member (widths_of items) sorts.Text (values.Text text)

-- a size that is within the limit of what `all` may take, 2^20 values
abbrev pub is_few : Option ℕ → Bool
is_few None = false
is_few (Some n) = nat_le n 1048576

-- a sort that is finite and has no more values than the limit
abbrev pub is_small : List Declaration → Sort → Bool
is_small items sort = is_few (size_of (widths_of items) sort)

-- the multisets over the kin of a sort, of which all values are taken
abbrev pub IsOfAll : List Declaration → SortExpr → TermSort → Type 0
IsOfAll items e s = (sort : Sort) × Resolves items e sort × (is_small items sort ≡ true) × (s ≡ terms.Bag (kin_of sort))

-- the multisets over the kin of a sort
abbrev pub IsOfEmpty : List Declaration → SortExpr → TermSort → Type 0
IsOfEmpty items e s = (sort : Sort) × Resolves items e sort × (s ≡ terms.Bag (kin_of sort))

-- the lists of values of the kin of a sort
abbrev pub IsOfEmptyList : List Declaration → SortExpr → TermSort → Type 0
IsOfEmptyList items e s = (sort : Sort) × Resolves items e sort × (s ≡ terms.Basis (sorts.List (kin_of sort)))

-- the partition of this name, whose base sort the argument has
abbrev pub IsOfElement : List Declaration → List ℕ → List TermSort → TermSort → Type 0
IsOfElement items name ts s = (p : ℕ) × (base : Sort) × (partition_named items name ≡ Some p) × IsBaseSort items p base × (ts ≡ terms.Basis base ∷ []) × (s ≡ terms.Basis (sorts.Partition p))

-- the sort that an operator gives, whose arguments fit it
abbrev pub IsOfOperator : List Declaration → Op → List TermSort → TermSort → Type 0
IsOfOperator items op ts s = Fits items op ts × (s ≡ given_by op ts)

-- a layer has this sort, where its parts have those
abbrev pub Gives : List Declaration → Layer → List TermSort → TermSort → Type 0
Gives items (layer.Variable name) ts s = IsOfVariable items name s
Gives items (layer.UserOp name) ts s = IsOfConstant items name s
Gives items (layer.Bool truth) ts s = s ≡ terms.Basis sorts.Bool
Gives items (layer.Number value sort) ts s = (is_good_number items value sort ≡ true) × (s ≡ terms.Basis sorts.Integer)
Gives items (layer.RangeConst value start end) ts s = (is_in_range items value start end ≡ true) × (s ≡ terms.Basis (sorts.Range start end))
Gives items (layer.Text text) ts s = (is_good_text items text ≡ true) × (s ≡ terms.Basis sorts.Text)
Gives items (layer.All e) ts s = IsOfAll items e s
Gives items (layer.Empty e) ts s = IsOfEmpty items e s
Gives items (layer.EmptyList e) ts s = IsOfEmptyList items e s
Gives items (layer.PartitionOf name arg) ts s = IsOfElement items name ts s
Gives items (layer.Apply op args) ts s = IsOfOperator items op ts s

-- the terms have these sorts, one each
pub data HaveSorts (items : List Declaration) : List Term → List TermSort → Type 0 where
  none : (es : List Term) (ss : List TermSort) → es ≡ [] → ss ≡ [] → HaveSorts items es ss
  more : (es : List Term) (ss : List TermSort) (e : Term) (rest : List Term) (s : TermSort) (others ts : List TermSort) → es ≡ e ∷ rest → ss ≡ s ∷ others
      → HaveSorts items (parts_of e) ts → Gives items (layer_of e) ts s → HaveSorts items rest others → HaveSorts items es ss

-- the term has this sort: its parts have sorts, and it has this one by them
abbrev pub HasSort : List Declaration → Term → TermSort → Type 0
HasSort items e s = (ts : List TermSort) × HaveSorts items (parts_of e) ts × Gives items (layer_of e) ts s
