-- What each operator gives for what its arguments gave: one case for each row of their table (ISO/IEC 15909-2, terms of symmetric
-- nets and of high-level nets), in families; an operator that a family doesn't have is in one above it. `os` is what the arguments gave,
-- all of which have a value; where their number or kinds don't fit the row, what is given has no meaning.
use Rattle.std.specs.Prelude.{ℕ, zero, suc, ◌-◌, ◌==◌, nat_lt, pos, Bool, not, ◌||◌, List, map, length, drop, if◌then◌else◌}
use Rattle.std.specs.List.{list_all, list_any}
use Rattle.std.specs.Ordering.{int_cmp, is_eq, is_lt, is_le, is_gt, is_ge}
use Rattle.pn_operators.specs.declared.op.Op.{Op}
use Rattle.pn_operators.specs.declared.op.Op.TheVariants as op
use Rattle.pn_values.specs.Order.{value_cmp}
use Rattle.pn_values.specs.declared.value.Value.TheVariants as values
use Rattle.pn_operations.specs.Lists.{list_concatenation, list_length, list_member}
use Rattle.pn_operations.specs.Multisets.{bag_of_value, bag_sum, bag_without, bag_multiple, bag_size, value_count, does_include, is_same_bag}
use Rattle.pn_operations.specs.Numbers.{number_sum, number_difference, number_product, number_quotient, number_rest}
use Rattle.pn_operations.specs.Outcomes.{is_given, value_in, bag_in, truth_in, place_in, number_in, text_in, items_in, first_of, second_of, truth, value_where, number_where, text_where, list_where, bag_where}
use Rattle.pn_operations.specs.Texts.{text_concatenation, text_length, text_cmp}
use Rattle.pn_operations.specs.declared.outcome.Outcome.{Outcome}
use Rattle.pn_operations.specs.declared.outcome.Outcome.TheVariants as outcomes

-- whether two are equal: multisets have the same counts, values are the same
abbrev pub are_equal : Outcome → Outcome → Bool
are_equal (outcomes.Bag one) (outcomes.Bag other) = is_same_bag one other
are_equal one other = is_eq (value_cmp (value_in one) (value_in other))

-- the next of so many constants, the first behind the last
abbrev pub next_place : ℕ → ℕ → ℕ
next_place round place = if nat_lt (suc place) round then suc place else 0

-- the previous of so many constants, the last before the first
abbrev pub previous_place : ℕ → ℕ → ℕ
previous_place round zero = round - 1
previous_place round (suc place) = place

-- the rows of lists
abbrev pub list_row : Op → List Outcome → Outcome
list_row op.MakeList os = outcomes.Value (values.List (map value_in os))
list_row op.ListConcatenation os = list_where (list_concatenation (items_in (first_of os)) (items_in (second_of os)))
list_row op.ListLength os = number_where (list_length (items_in (first_of os)))
list_row op.MemberAtIndex os = value_where (list_member (items_in (first_of os)) (number_in (second_of os)))
list_row _ os = outcomes.NoValue

-- the rows of texts
abbrev pub text_row : Op → List Outcome → Outcome
text_row op.StringConcatenation os = text_where (text_concatenation (text_in (first_of os)) (text_in (second_of os)))
text_row op.StringLength os = number_where (text_length (text_in (first_of os)))
text_row op.Lts os = truth (is_lt (text_cmp (text_in (first_of os)) (text_in (second_of os))))
text_row op.Leqs os = truth (is_le (text_cmp (text_in (first_of os)) (text_in (second_of os))))
text_row op.Gts os = truth (is_gt (text_cmp (text_in (first_of os)) (text_in (second_of os))))
text_row op.Geqs os = truth (is_ge (text_cmp (text_in (first_of os)) (text_in (second_of os))))
text_row o os = list_row o os

-- the rows of multisets
abbrev pub bag_row : Op → List Outcome → Outcome
bag_row op.NumberOf os = bag_where (if length os == 1 then bag_of_value (pos 1) (value_in (first_of os)) else bag_of_value (number_in (first_of os)) (value_in (second_of os)))
bag_row op.Add os = bag_where (bag_sum (map bag_in os))
bag_row op.Subtract os = bag_where (bag_without (bag_in (first_of os)) (map bag_in (drop 1 os)))
bag_row op.ScalarProduct os = bag_where (bag_multiple (number_in (first_of os)) (bag_in (second_of os)))
bag_row op.Cardinality os = number_where (bag_size (bag_in (first_of os)))
bag_row op.CardinalityOf os = outcomes.Value (values.Int (value_count (bag_in (first_of os)) (value_in (second_of os))))
bag_row op.Contains os = truth (does_include (bag_in (first_of os)) (bag_in (second_of os)))
bag_row o os = text_row o os

-- the rows of numbers
abbrev pub number_row : Op → List Outcome → Outcome
number_row op.Addition os = number_where (number_sum (number_in (first_of os)) (number_in (second_of os)))
number_row op.Subtraction os = number_where (number_difference (number_in (first_of os)) (number_in (second_of os)))
number_row op.Mult os = number_where (number_product (number_in (first_of os)) (number_in (second_of os)))
number_row op.Div os = number_where (number_quotient (number_in (first_of os)) (number_in (second_of os)))
number_row op.Mod os = number_where (number_rest (number_in (first_of os)) (number_in (second_of os)))
number_row op.Lt os = truth (is_lt (int_cmp (number_in (first_of os)) (number_in (second_of os))))
number_row op.Leq os = truth (is_le (int_cmp (number_in (first_of os)) (number_in (second_of os))))
number_row op.Gt os = truth (is_gt (int_cmp (number_in (first_of os)) (number_in (second_of os))))
number_row op.Geq os = truth (is_ge (int_cmp (number_in (first_of os)) (number_in (second_of os))))
number_row o os = bag_row o os

-- the rows of the one value, constants and tuples; `round` is the number of constants of the enumeration that the first argument has
abbrev pub constant_row : ℕ → Op → List Outcome → Outcome
constant_row round op.DotConstant os = outcomes.Value values.Dot
constant_row round op.Successor os = outcomes.Value (values.Const (next_place round (place_in (first_of os))))
constant_row round op.Predecessor os = outcomes.Value (values.Const (previous_place round (place_in (first_of os))))
constant_row round op.Tuple os = outcomes.Value (values.Tuple (map value_in os))
constant_row round o os = number_row o os

-- the rows of order
abbrev pub order_row : ℕ → Op → List Outcome → Outcome
order_row round op.LessThan os = truth (is_lt (value_cmp (value_in (first_of os)) (value_in (second_of os))))
order_row round op.LessThanOrEqual os = truth (is_le (value_cmp (value_in (first_of os)) (value_in (second_of os))))
order_row round op.GreaterThan os = truth (is_gt (value_cmp (value_in (first_of os)) (value_in (second_of os))))
order_row round op.GreaterThanOrEqual os = truth (is_ge (value_cmp (value_in (first_of os)) (value_in (second_of os))))
order_row round op.Ltp os = truth (is_lt (value_cmp (value_in (first_of os)) (value_in (second_of os))))
order_row round op.Gtp os = truth (is_gt (value_cmp (value_in (first_of os)) (value_in (second_of os))))
order_row round o os = constant_row round o os

-- the rows of truth values and equality
abbrev pub truth_row : ℕ → Op → List Outcome → Outcome
truth_row round op.And os = truth (list_all truth_in os)
truth_row round op.Or os = truth (list_any truth_in os)
truth_row round op.Not os = truth (not (truth_in (first_of os)))
truth_row round op.Imply os = truth (not (truth_in (first_of os)) || truth_in (second_of os))
truth_row round op.Equality os = truth (are_equal (first_of os) (second_of os))
truth_row round op.Inequality os = truth (not (are_equal (first_of os) (second_of os)))
truth_row round o os = order_row round o os

-- what an operator gives: its row; where an argument has no value it has none
abbrev pub value_given : ℕ → Op → List Outcome → Outcome
value_given round o os = if list_all is_given os then truth_row round o os else outcomes.NoValue
