-- What the operators ask of the sorts of their arguments, and the sorts that they give: one case for each row of their
-- table (ISO/IEC 15909-2, terms of symmetric nets and of high-level nets).
use Rattle.std.specs.Prelude.{◌≡◌, ◌-◌, ℕ, List, map, length, Bool, true, false, ◌&&◌, ◌||◌, ◌==◌, nat_le, Option, None, Some, slice_index_or}
use Rattle.std.specs.List.{list_all, Contains}
use Rattle.pn_operators.specs.declared.op.Op.{Op}
use Rattle.pn_operators.specs.declared.op.Op.TheVariants as op
use Rattle.pn_operators.specs.Operators.{least_of, most_of}
use Rattle.pn_syntax.specs.declared.declaration.Declaration.{Declaration}
use Rattle.pn_values.specs.declared.sort.Sort.{Sort}
use Rattle.pn_values.specs.declared.sort.Sort.TheVariants as sorts
use Rattle.pn_values.specs.declared.sort.Sort.TheOpen as layer
use Rattle.pn_values.specs.declared.sort.Sort.TheViews.{out-Sort}
use Rattle.pn_sorts.specs.Lookups.{is_cyclic}
use Rattle.pn_terms.specs.declared.term_sort.TermSort.{TermSort}
use Rattle.pn_terms.specs.declared.term_sort.TermSort.TheVariants as terms
use Rattle.pn_terms.specs.declared.family.Family.{Family}
use Rattle.pn_terms.specs.declared.family.Family.TheVariants as families

abbrev is_truth_layer : layer.Sort-F Sort → Bool
is_truth_layer layer.Bool = true
is_truth_layer _ = false

abbrev is_integer_layer : layer.Sort-F Sort → Bool
is_integer_layer layer.Integer = true
is_integer_layer _ = false

abbrev pub is_round_layer : List Declaration → layer.Sort-F Sort → Bool
is_round_layer items (layer.Enumeration place) = is_cyclic items place
is_round_layer items _ = false

abbrev is_ordered_layer : layer.Sort-F Sort → Bool
is_ordered_layer (layer.Enumeration place) = true
is_ordered_layer (layer.Range start end) = true
is_ordered_layer _ = false

abbrev is_partition_layer : layer.Sort-F Sort → Bool
is_partition_layer (layer.Partition place) = true
is_partition_layer _ = false

abbrev is_text_layer : layer.Sort-F Sort → Bool
is_text_layer layer.Text = true
is_text_layer _ = false

abbrev is_list_layer : layer.Sort-F Sort → Bool
is_list_layer (layer.List item) = true
is_list_layer _ = false

-- a cyclic enumeration
abbrev pub is_round : List Declaration → Sort → Bool
is_round items s = is_round_layer items (out-Sort s)

-- a basis sort of a family: the truth values, the integers, cyclic enumerations, ranges and enumerations, partitions, texts, lists, or any
abbrev pub is_basis_in : List Declaration → Family → Sort → Bool
is_basis_in items families.Truths s = is_truth_layer (out-Sort s)
is_basis_in items families.Integers s = is_integer_layer (out-Sort s)
is_basis_in items families.Rounds s = is_round items s
is_basis_in items families.Ordered s = is_ordered_layer (out-Sort s)
is_basis_in items families.Elements s = is_partition_layer (out-Sort s)
is_basis_in items families.Texts s = is_text_layer (out-Sort s)
is_basis_in items families.Lists s = is_list_layer (out-Sort s)
is_basis_in items families.Basis s = true
is_basis_in items families.Bags s = false

-- the multisets are a family of their own
abbrev pub is_bag_in : Family → Bool
is_bag_in families.Truths = false
is_bag_in families.Integers = false
is_bag_in families.Rounds = false
is_bag_in families.Ordered = false
is_bag_in families.Elements = false
is_bag_in families.Texts = false
is_bag_in families.Lists = false
is_bag_in families.Basis = false
is_bag_in families.Bags = true

-- a sort of a family
abbrev pub is_in : List Declaration → Family → TermSort → Bool
is_in items family (terms.Basis s) = is_basis_in items family s
is_in items family (terms.Bag s) = is_bag_in family

-- all sorts are of a family
abbrev pub AreIn : List Declaration → Family → List TermSort → Type 0
AreIn items family ts = list_all (is_in items family) ts ≡ true

-- any two of the sorts are the same
abbrev pub AreAlike : List TermSort → Type 0
AreAlike ts = (s t : TermSort) → Contains ts s → Contains ts t → s ≡ t

-- the first of the sorts
abbrev pub first_of : List TermSort → TermSort
first_of ts = slice_index_or ts 0 (terms.Basis sorts.Dot)

-- the last of the sorts
abbrev pub last_of : List TermSort → TermSort
last_of ts = slice_index_or ts (length ts - 1) (terms.Basis sorts.Dot)

-- a sort, or the one over which these are the multisets
abbrev pub basis_of : TermSort → Sort
basis_of (terms.Basis s) = s
basis_of (terms.Bag s) = s

-- the last is a basis sort, and where it has one before it, that one is a number
abbrev pub is_counted : List Declaration → List TermSort → Bool
is_counted items ts = is_in items families.Basis (last_of ts) && (length ts == 1 || is_in items families.Integers (first_of ts))

-- the first is a number, the last a multiset
abbrev pub is_scaled : List Declaration → List TermSort → Bool
is_scaled items ts = is_in items families.Integers (first_of ts) && is_in items families.Bags (last_of ts)

-- the first are the multisets over a sort, and the last is that sort
abbrev pub HasCountIn : List TermSort → Type 0
HasCountIn ts = (s : Sort) × (first_of ts ≡ terms.Bag s) × (last_of ts ≡ terms.Basis s)

-- the first is a list, the last a number
abbrev pub is_indexed : List Declaration → List TermSort → Bool
is_indexed items ts = is_in items families.Lists (first_of ts) && is_in items families.Integers (last_of ts)

abbrev item_in : Sort → layer.Sort-F Sort → Sort
item_in s (layer.List item) = item
item_in s _ = s

-- the sort of the items, where this is the sort of their lists
abbrev pub item_of : Sort → Sort
item_of s = item_in s (out-Sort s)

-- no more than the greatest number of arguments, where there is one
abbrev pub at_most : ℕ → Option ℕ → Bool
at_most n None = true
at_most n (Some most) = nat_le n most

-- whether an operator takes so many arguments
abbrev pub takes : Op → ℕ → Bool
takes o n = nat_le (least_of o) n && at_most n (most_of o)

-- as many arguments as the operator takes are of sorts that fit it
abbrev pub Suit : List Declaration → Op → List TermSort → Type 0
Suit items op.DotConstant ts = Unit {0}
Suit items op.And ts = AreIn items families.Truths ts
Suit items op.Or ts = AreIn items families.Truths ts
Suit items op.Not ts = AreIn items families.Truths ts
Suit items op.Imply ts = AreIn items families.Truths ts
Suit items op.Equality ts = AreAlike ts
Suit items op.Inequality ts = AreAlike ts
Suit items op.Successor ts = AreIn items families.Rounds ts
Suit items op.Predecessor ts = AreIn items families.Rounds ts
Suit items op.LessThan ts = AreIn items families.Ordered ts × AreAlike ts
Suit items op.LessThanOrEqual ts = AreIn items families.Ordered ts × AreAlike ts
Suit items op.GreaterThan ts = AreIn items families.Ordered ts × AreAlike ts
Suit items op.GreaterThanOrEqual ts = AreIn items families.Ordered ts × AreAlike ts
Suit items op.Ltp ts = AreIn items families.Elements ts × AreAlike ts
Suit items op.Gtp ts = AreIn items families.Elements ts × AreAlike ts
Suit items op.Tuple ts = AreIn items families.Basis ts
Suit items op.NumberOf ts = is_counted items ts ≡ true
Suit items op.Add ts = AreIn items families.Bags ts × AreAlike ts
Suit items op.Subtract ts = AreIn items families.Bags ts × AreAlike ts
Suit items op.ScalarProduct ts = is_scaled items ts ≡ true
Suit items op.Addition ts = AreIn items families.Integers ts
Suit items op.Subtraction ts = AreIn items families.Integers ts
Suit items op.Mult ts = AreIn items families.Integers ts
Suit items op.Div ts = AreIn items families.Integers ts
Suit items op.Mod ts = AreIn items families.Integers ts
Suit items op.Lt ts = AreIn items families.Integers ts
Suit items op.Leq ts = AreIn items families.Integers ts
Suit items op.Gt ts = AreIn items families.Integers ts
Suit items op.Geq ts = AreIn items families.Integers ts
Suit items op.Cardinality ts = AreIn items families.Bags ts
Suit items op.CardinalityOf ts = HasCountIn ts
Suit items op.Contains ts = AreIn items families.Bags ts × AreAlike ts
Suit items op.StringConcatenation ts = AreIn items families.Texts ts
Suit items op.StringLength ts = AreIn items families.Texts ts
Suit items op.Lts ts = AreIn items families.Texts ts
Suit items op.Leqs ts = AreIn items families.Texts ts
Suit items op.Gts ts = AreIn items families.Texts ts
Suit items op.Geqs ts = AreIn items families.Texts ts
Suit items op.MakeList ts = AreIn items families.Basis ts × AreAlike ts
Suit items op.ListConcatenation ts = AreIn items families.Lists ts × AreAlike ts
Suit items op.ListLength ts = AreIn items families.Lists ts
Suit items op.MemberAtIndex ts = is_indexed items ts ≡ true

-- the operator takes so many arguments, and they are of sorts that fit it
pub record Fits (items : List Declaration) (o : Op) (ts : List TermSort) : Type 0 where
  pub number : takes o (length ts) ≡ true
  pub suit : Suit items o ts

-- the sort that the operator gives for arguments of these sorts, which fit it
abbrev pub given_by : Op → List TermSort → TermSort
given_by op.DotConstant ts = terms.Basis sorts.Dot
given_by op.And ts = terms.Basis sorts.Bool
given_by op.Or ts = terms.Basis sorts.Bool
given_by op.Not ts = terms.Basis sorts.Bool
given_by op.Imply ts = terms.Basis sorts.Bool
given_by op.Equality ts = terms.Basis sorts.Bool
given_by op.Inequality ts = terms.Basis sorts.Bool
given_by op.Successor ts = first_of ts
given_by op.Predecessor ts = first_of ts
given_by op.LessThan ts = terms.Basis sorts.Bool
given_by op.LessThanOrEqual ts = terms.Basis sorts.Bool
given_by op.GreaterThan ts = terms.Basis sorts.Bool
given_by op.GreaterThanOrEqual ts = terms.Basis sorts.Bool
given_by op.Ltp ts = terms.Basis sorts.Bool
given_by op.Gtp ts = terms.Basis sorts.Bool
given_by op.Tuple ts = terms.Basis (sorts.Product (map basis_of ts))
given_by op.NumberOf ts = terms.Bag (basis_of (last_of ts))
given_by op.Add ts = first_of ts
given_by op.Subtract ts = first_of ts
given_by op.ScalarProduct ts = last_of ts
given_by op.Addition ts = terms.Basis sorts.Integer
given_by op.Subtraction ts = terms.Basis sorts.Integer
given_by op.Mult ts = terms.Basis sorts.Integer
given_by op.Div ts = terms.Basis sorts.Integer
given_by op.Mod ts = terms.Basis sorts.Integer
given_by op.Lt ts = terms.Basis sorts.Bool
given_by op.Leq ts = terms.Basis sorts.Bool
given_by op.Gt ts = terms.Basis sorts.Bool
given_by op.Geq ts = terms.Basis sorts.Bool
given_by op.Cardinality ts = terms.Basis sorts.Integer
given_by op.CardinalityOf ts = terms.Basis sorts.Integer
given_by op.Contains ts = terms.Basis sorts.Bool
given_by op.StringConcatenation ts = terms.Basis sorts.Text
given_by op.StringLength ts = terms.Basis sorts.Integer
given_by op.Lts ts = terms.Basis sorts.Bool
given_by op.Leqs ts = terms.Basis sorts.Bool
given_by op.Gts ts = terms.Basis sorts.Bool
given_by op.Geqs ts = terms.Basis sorts.Bool
given_by op.MakeList ts = terms.Basis (sorts.List (basis_of (first_of ts)))
given_by op.ListConcatenation ts = first_of ts
given_by op.ListLength ts = terms.Basis sorts.Integer
given_by op.MemberAtIndex ts = terms.Basis (item_of (basis_of (first_of ts)))

-- where the arguments fit it is this sort that is given, else there is none
abbrev pub IsGivenWhere : Type 0 → TermSort → Option TermSort → Type 0
IsGivenWhere Fit given None = Fit → ⊥
IsGivenWhere Fit given (Some s) = Fit × (s ≡ given)
