-- What the operators on integers give (ISO/IEC 15909-2, high-level nets, integers).
use Rattle.std.specs.Prelude.{ℤ, pos, ◌+ℤ◌, ◌-ℤ◌, ◌*ℤ◌, int_le, int_div, int_rem, ◌&&◌, Option, Some, None, if◌then◌else◌}
use Rattle.std.specs.Ordering.{int_eq}
use Rattle.pn_carriers.specs.Members.{least_number, greatest_number}

-- the number, where it is from -2^63 to 2^63 - 1
abbrev pub in_range : ℤ → Option ℤ
in_range number = if int_le least_number number && int_le number greatest_number then Some number else None

-- addition
abbrev pub number_sum : ℤ → ℤ → Option ℤ
number_sum one other = in_range (one +ℤ other)

-- subtraction
abbrev pub number_difference : ℤ → ℤ → Option ℤ
number_difference one other = in_range (one -ℤ other)

-- mult
abbrev pub number_product : ℤ → ℤ → Option ℤ
number_product one other = in_range (one *ℤ other)

-- div: the quotient towards zero; by 0 there is none
abbrev pub number_quotient : ℤ → ℤ → Option ℤ
number_quotient one other = if int_eq other (pos 0) then None else in_range (int_div one other)

-- mod: the rest of that division, with the sign of the first; by 0 there is none
abbrev pub number_rest : ℤ → ℤ → Option ℤ
number_rest one other = if int_eq other (pos 0) then None else in_range (int_rem one other)
