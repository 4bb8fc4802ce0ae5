-- What the operators on texts give (ISO/IEC 15909-2, strings). A text is its bytes in UTF-8.
use Rattle.std.specs.Prelude.{ℕ, nat_le, ℤ, pos, List, ◌++◌, length, Option, Some, None, if◌then◌else◌}
use Rattle.std.specs.Cmp.Lexicographic.{slice_cmp}
use Rattle.std.specs.Ordering.{nat_cmp}
use Rattle.std.specs.declared.cmp.Ordering.{Ordering}
use Rattle.pn_text.specs.Characters.{characters_of}
use Rattle.pn_operations.specs.Numbers.{in_range}

-- stringconcatenation: the first, then the second; where there are more than 16777216 bytes there is none
abbrev pub text_concatenation : List ℕ → List ℕ → Option (List ℕ)
text_concatenation one other = if nat_le (length (one ++ other)) 16777216 then Some (one ++ other) else None

-- stringlength: the number of characters
abbrev pub text_length : List ℕ → Option ℤ
text_length text = in_range (pos (length (characters_of text)))

-- lts, leqs, gts, geqs: texts are ordered by their bytes
abbrev pub text_cmp : List ℕ → List ℕ → Ordering
text_cmp = slice_cmp nat_cmp
