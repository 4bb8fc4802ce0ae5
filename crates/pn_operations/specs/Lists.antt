-- What the operators on lists of values give (ISO/IEC 15909-2, lists).
use Rattle.std.specs.Prelude.{nat_le, ℤ, pos, negsuc, List, ◌++◌, length, slice_get, Option, Some, None, if◌then◌else◌}
use Rattle.pn_values.specs.declared.value.Value.{Value}
use Rattle.pn_operations.specs.Numbers.{in_range}

-- listconcatenation: the first, then the second; where there are more than 1048576 items there is none
abbrev pub list_concatenation : List Value → List Value → Option (List Value)
list_concatenation one other = if nat_le (length (one ++ other)) 1048576 then Some (one ++ other) else None

-- listlength: the number of items
abbrev pub list_length : List Value → Option ℤ
list_length items = in_range (pos (length items))

-- memberatindex: the item at the place, counted from 0; outside there is none
abbrev pub list_member : List Value → ℤ → Option Value
list_member items (pos place) = slice_get items place
list_member items (negsuc n) = None
