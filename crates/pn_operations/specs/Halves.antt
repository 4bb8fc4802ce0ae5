-- How the sum of many multisets goes by halves.
use Rattle.std.specs.Prelude.{ℕ, List, Option, option_and_then}
use Rattle.pn_bag.specs.Algebra.{joined}
use Rattle.pn_values.specs.Order.{value_cmp}
use Rattle.pn_values.specs.declared.value.Value.{Value}
use Rattle.pn_operations.specs.Multisets.{within_counts}

-- the sum of two multisets; where a count passes 2^63 - 1 there is none
abbrev pub sum_of_two : List (Value × ℕ) → List (Value × ℕ) → Option (List (Value × ℕ))
sum_of_two one other = within_counts (joined value_cmp one other)

-- the sum of two sums
abbrev pub sum_of_both : Option (List (Value × ℕ)) → Option (List (Value × ℕ)) → Option (List (Value × ℕ))
sum_of_both left right = option_and_then (λ one. option_and_then (λ other. sum_of_two one other) right) left
