-- Ids, names and values as they stand in a line, without white space and without control characters.
use Rattle.std.specs.Prelude.{ℕ, ◌/◌, ◌%◌, ◌==◌, Bool, true, not, ◌||◌, List, [], ◌∷◌, if◌then◌else◌}
use Rattle.std.specs.Char.{is_ascii, is_ascii_alphanumeric}
use Rattle.std.specs.Fmt.{digit_glyph}
use Rattle.std.specs.List.{flat_map}

-- a byte that stands as it is: an ASCII letter or digit, `_`, `-`, `.`, or a byte past ASCII
abbrev pub is_plain : ℕ → Bool
is_plain b = is_ascii_alphanumeric b || (((b == 95) || ((b == 45) || (b == 46))) || not (is_ascii b))

-- `%` and the two upper-case hexadecimal digits of a byte
abbrev pub percent_escape : ℕ → List ℕ
percent_escape b = 37 ∷ digit_glyph true (b / 16) ∷ digit_glyph true (b % 16) ∷ []

-- how a byte stands in a line
abbrev pub escape : ℕ → List ℕ
escape b = if is_plain b then b ∷ [] else percent_escape b

-- how a text stands in a line, byte by byte
abbrev pub escaped : List ℕ → List ℕ
escaped = flat_map escape

-- a byte that may stand in an escaped text
abbrev pub is_line_byte : ℕ → Bool
is_line_byte b = is_plain b || (b == 37)
