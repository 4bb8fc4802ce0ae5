-- What is read from an outcome and from the outcomes of arguments, and what an operator gives where it has a value (ISO/IEC 15909-2).
use Rattle.std.specs.Prelude.{ℕ, ℤ, pos, Bool, true, false, List, [], slice_index_or, Option, Some, None}
use Rattle.pn_operations.specs.declared.outcome.Outcome.{Outcome}
use Rattle.pn_operations.specs.declared.outcome.Outcome.TheVariants as outcomes
use Rattle.pn_values.specs.declared.value.Value.{Value}
use Rattle.pn_values.specs.declared.value.Value.TheOpen as layer
use Rattle.pn_values.specs.declared.value.Value.TheVariants as values
use Rattle.pn_values.specs.declared.value.Value.TheViews.{out-Value}

-- ---- what a value holds, where it is of the kind; else a plain one

-- its truth value, else false
abbrev pub truth_of : layer.Value-F Value → Bool
truth_of (layer.Bool truth) = truth
truth_of _ = false

-- its place among constants, else 0
abbrev pub place_of : layer.Value-F Value → ℕ
place_of (layer.Const place) = place
place_of _ = 0

-- its number, else 0
abbrev pub number_of : layer.Value-F Value → ℤ
number_of (layer.Int number) = number
number_of _ = pos 0

-- its text, else the empty one
abbrev pub text_of : layer.Value-F Value → List ℕ
text_of (layer.Text text) = text
text_of _ = []

-- the items of a list, else none
abbrev pub items_of : layer.Value-F Value → List Value
items_of (layer.List items) = items
items_of _ = []

-- ---- what an outcome holds

-- whether there is a value or a multiset
abbrev pub is_given : Outcome → Bool
is_given (outcomes.Value value) = true
is_given (outcomes.Bag bag) = true
is_given outcomes.NoValue = false

-- the value, else Dot
abbrev pub value_in : Outcome → Value
value_in (outcomes.Value value) = value
value_in (outcomes.Bag bag) = values.Dot
value_in outcomes.NoValue = values.Dot

-- the entries of the multiset, else none
abbrev pub bag_in : Outcome → List (Value × ℕ)
bag_in (outcomes.Value value) = []
bag_in (outcomes.Bag bag) = bag
bag_in outcomes.NoValue = []

abbrev pub truth_in : Outcome → Bool
truth_in outcome = truth_of (out-Value (value_in outcome))

abbrev pub place_in : Outcome → ℕ
place_in outcome = place_of (out-Value (value_in outcome))

abbrev pub number_in : Outcome → ℤ
number_in outcome = number_of (out-Value (value_in outcome))

abbrev pub text_in : Outcome → List ℕ
text_in outcome = text_of (out-Value (value_in outcome))

abbrev pub items_in : Outcome → List Value
items_in outcome = items_of (out-Value (value_in outcome))

-- ---- arguments

-- the first of them, where there is one
abbrev pub first_of : List Outcome → Outcome
first_of os = slice_index_or os 0 outcomes.NoValue

-- the second of them, where there is one
abbrev pub second_of : List Outcome → Outcome
second_of os = slice_index_or os 1 outcomes.NoValue

-- ---- what is given

-- a truth value
abbrev pub truth : Bool → Outcome
truth b = outcomes.Value (values.Bool b)

-- a value, where there is one
abbrev pub value_where : Option Value → Outcome
value_where None = outcomes.NoValue
value_where (Some value) = outcomes.Value value

-- a number, where there is one
abbrev pub number_where : Option ℤ → Outcome
number_where None = outcomes.NoValue
number_where (Some number) = outcomes.Value (values.Int number)

-- a text, where there is one
abbrev pub text_where : Option (List ℕ) → Outcome
text_where None = outcomes.NoValue
text_where (Some text) = outcomes.Value (values.Text text)

-- a list, where there is one
abbrev pub list_where : Option (List Value) → Outcome
list_where None = outcomes.NoValue
list_where (Some items) = outcomes.Value (values.List items)

-- a multiset, where there is one
abbrev pub bag_where : Option (List (Value × ℕ)) → Outcome
bag_where None = outcomes.NoValue
bag_where (Some bag) = outcomes.Bag bag
