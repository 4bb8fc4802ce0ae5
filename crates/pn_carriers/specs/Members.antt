-- Which values are of a sort, of the infinite sorts too (ISO/IEC 15909-2, sorts of symmetric nets and of high-level nets).
use Rattle.std.specs.Prelude.{◌≡◌, ℕ, ◌-◌, ◌^◌, Bool, true, false, ◌&&◌, List, [], ◌∷◌, ℤ, pos, negsuc, int_le, nat_lt}
use Rattle.std.specs.List.{list_all}
use Rattle.pn_text.specs.Characters.{is_text}
use Rattle.pn_values.specs.declared.sort.Sort.{Sort}
use Rattle.pn_values.specs.declared.sort.Sort.TheOpen as sort_layer
use Rattle.pn_values.specs.declared.sort.Sort.TheFolds.{fold-Sort}
use Rattle.pn_values.specs.declared.value.Value.{Value}
use Rattle.pn_values.specs.declared.value.Value.TheOpen as value_layer
use Rattle.pn_values.specs.declared.value.Value.TheViews.{out-Value}
use Rattle.pn_carriers.specs.Carriers.{width_of}

-- the one value of the sort Dot
abbrev pub is_dot : value_layer.Value-F Value → Bool
is_dot value_layer.Dot = true
is_dot _ = false

-- a truth value
abbrev pub is_truth : value_layer.Value-F Value → Bool
is_truth (value_layer.Bool b) = true
is_truth _ = false

-- a constant of a declaration that has so many
abbrev pub is_constant : ℕ → value_layer.Value-F Value → Bool
is_constant width (value_layer.Const c) = nat_lt c width
is_constant width _ = false

-- a whole number from `start` to `end`
abbrev pub is_between : ℤ → ℤ → value_layer.Value-F Value → Bool
is_between start end (value_layer.Int z) = int_le start z && int_le z end
is_between start end _ = false

-- a text of characters that a document may have
abbrev pub is_document_text : value_layer.Value-F Value → Bool
is_document_text (value_layer.Text t) = is_text t
is_document_text _ = false

-- there are as many values as tests, and each passes its own
abbrev pub pass_each : List (Value → Bool) → List Value → Bool
pass_each [] [] = true
pass_each [] (v ∷ vs) = false
pass_each (test ∷ tests) [] = false
pass_each (test ∷ tests) (v ∷ vs) = test v && pass_each tests vs

-- a tuple of one value for each test, which passes it
abbrev pub is_tuple_of : List (Value → Bool) → value_layer.Value-F Value → Bool
is_tuple_of tests (value_layer.Tuple vs) = pass_each tests vs
is_tuple_of tests _ = false

-- a list of values that pass the test
abbrev pub is_list_of : (Value → Bool) → value_layer.Value-F Value → Bool
is_list_of test (value_layer.List vs) = list_all test vs
is_list_of test _ = false

-- the least number of 64 bits
abbrev pub least_number : ℤ
least_number = negsuc (2 ^ 63 - 1)

-- the greatest number of 64 bits
abbrev pub greatest_number : ℤ
greatest_number = pos (2 ^ 63 - 1)

-- whether a value, open one level, is of a sort, where the test is known of the parts
abbrev pub is_member_layer : List ℕ → sort_layer.Sort-F (Value → Bool) → value_layer.Value-F Value → Bool
is_member_layer widths sort_layer.Dot v = is_dot v
is_member_layer widths sort_layer.Bool v = is_truth v
is_member_layer widths (sort_layer.Enumeration n) v = is_constant (width_of widths n) v
is_member_layer widths (sort_layer.Partition n) v = is_constant (width_of widths n) v
is_member_layer widths (sort_layer.Range start end) v = is_between start end v
is_member_layer widths (sort_layer.Product parts) v = is_tuple_of parts v
is_member_layer widths sort_layer.Integer v = is_between least_number greatest_number v
is_member_layer widths sort_layer.Natural v = is_between (pos 0) greatest_number v
is_member_layer widths sort_layer.Positive v = is_between (pos 1) greatest_number v
is_member_layer widths sort_layer.Text v = is_document_text v
is_member_layer widths (sort_layer.List item) v = is_list_of item v

-- whether a value is of a sort
abbrev pub is_member : List ℕ → Sort → Value → Bool
is_member widths = fold-Sort (Value → Bool) (λ sort v. is_member_layer widths sort (out-Value v))

-- a value is of a sort
abbrev pub IsMember : List ℕ → Value → Sort → Type 0
IsMember widths v sort = is_member widths sort v ≡ true
