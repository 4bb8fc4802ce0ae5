-- What the operators on multisets of values give (ISO/IEC 15909-2, multisets). A multiset is its entries, each a value and its count, in the order of values.
use Rattle.std.specs.Prelude.{ℕ, ◌-◌, nat_le, nat_lt, ℤ, pos, negsuc, Bool, ◌&&◌, List, [], ◌∷◌, map, filter, Option, Some, None, option_map, option_and_then, if◌then◌else◌}
use Rattle.std.specs.List.{list_all}
use Rattle.pn_bag.specs.Algebra.{added, joined, scaled}
use Rattle.pn_bag.specs.Copies.{total_of}
use Rattle.pn_bag.specs.Counts.{count_of}
use Rattle.pn_values.specs.Order.{value_cmp}
use Rattle.pn_values.specs.declared.value.Value.{Value}
use Rattle.pn_operations.specs.Numbers.{in_range}

-- the number as a count, where it is from 0 to 2^63 - 1
abbrev pub as_count : ℤ → Option ℕ
as_count (pos n) = if nat_le n 9223372036854775807 then Some n else None
as_count (negsuc n) = None

-- the multiset, where no count passes 2^63 - 1
abbrev pub within_counts : List (Value × ℕ) → Option (List (Value × ℕ))
within_counts bag = if list_all (λ entry. nat_le entry.1 9223372036854775807) bag then Some bag else None

-- numberof: the value that often
abbrev pub bag_of_value : ℤ → Value → Option (List (Value × ℕ))
bag_of_value number value = option_map (λ count. added value_cmp [] value count) (as_count number)

-- the sum of multisets, whatever its counts
abbrev pub total_bag : List (List (Value × ℕ)) → List (Value × ℕ)
total_bag [] = []
total_bag (bag ∷ bags) = joined value_cmp (total_bag bags) bag

-- add: the sum; where a count passes 2^63 - 1 there is none
abbrev pub bag_sum : List (List (Value × ℕ)) → Option (List (Value × ℕ))
bag_sum bags = within_counts (total_bag bags)

-- contains: whether each value of the part has at most the count there that it has in the whole
abbrev pub does_include : List (Value × ℕ) → List (Value × ℕ) → Bool
does_include whole part = list_all (λ entry. nat_le (count_of value_cmp part entry.0) (count_of value_cmp whole entry.0)) part

-- what is left of the whole without the part: each value with the count that is left, if any
abbrev pub without_part : List (Value × ℕ) → List (Value × ℕ) → List (Value × ℕ)
without_part whole part = filter (λ entry. nat_lt 0 entry.1) (map (λ entry. (entry.0, entry.1 - count_of value_cmp part entry.0)) whole)

-- one multiset taken away from another; where it is not included there is nothing
abbrev pub bag_difference : List (Value × ℕ) → List (Value × ℕ) → Option (List (Value × ℕ))
bag_difference whole part = if does_include whole part then Some (without_part whole part) else None

-- subtract: one multiset after another is taken away, from the left
abbrev pub bag_without : List (Value × ℕ) → List (List (Value × ℕ)) → Option (List (Value × ℕ))
bag_without whole [] = Some whole
bag_without whole (part ∷ parts) = option_and_then (λ rest. bag_without rest parts) (bag_difference whole part)

-- scalarproduct: each count times the number
abbrev pub bag_multiple : ℤ → List (Value × ℕ) → Option (List (Value × ℕ))
bag_multiple number bag = option_and_then (λ count. within_counts (scaled count bag)) (as_count number)

-- cardinality: the sum of counts
abbrev pub bag_size : List (Value × ℕ) → Option ℤ
bag_size bag = in_range (pos (total_of bag))

-- cardinalityof: the count of the value
abbrev pub value_count : List (Value × ℕ) → Value → ℤ
value_count bag value = pos (count_of value_cmp bag value)

-- equality of multisets: each includes the other, so that each value has the same count in both
abbrev pub is_same_bag : List (Value × ℕ) → List (Value × ℕ) → Bool
is_same_bag one other = does_include one other && does_include other one
