-- The characters and names that a tree may hold: XML 1.0, sections 2.2 and 2.3, with this project's wider names.
use Rattle.std.specs.Prelude.{ℕ, ◌+◌, ◌/◌, ◌%◌, Bool, false, ◌==◌, ◌&&◌, ◌||◌, nat_le, nat_lt, List, [], ◌∷◌, if◌then◌else◌}
use Rattle.std.specs.List.{list_all, flat_map}
use Rattle.std.specs.Str.{chars_after, continuation_len, lead_bits, bytes_eq}

-- whether a number is from low to high
abbrev pub is_within : ℕ → ℕ → ℕ → Bool
is_within low high c = nat_le low c && nat_le c high

-- a character that a document may have: tab, LF, CR, U+0020 to U+D7FF, U+E000 to U+FFFD, U+10000 to U+10FFFF (XML 1.0, 2.2)
abbrev pub is_character : ℕ → Bool
is_character c = (c == 9) || ((c == 10) || ((c == 13) || (is_within 0x20 0xD7FF c || (is_within 0xE000 0xFFFD c || is_within 0x1_0000 0x10_FFFF c))))

-- the characters that bytes are the UTF-8 of, where they are that of some
abbrev pub characters_of : List ℕ → List ℕ
characters_of [] = []
characters_of (b ∷ bs) = chars_after (continuation_len b) (lead_bits b) bs

abbrev pub further : ℕ → ℕ
further bits = 0x80 + bits % 0x40

-- the bytes of a character in UTF-8 (RFC 3629)
abbrev pub utf8_of : ℕ → List ℕ
utf8_of c =
    if nat_lt c 0x80
    then c ∷ []
    else (if nat_lt c 0x800
    then (0xC0 + c / 0x40) ∷ further c ∷ []
    else (if nat_lt c 0x1_0000
    then (0xE0 + c / 0x1000) ∷ further (c / 0x40) ∷ further c ∷ []
    else (0xF0 + c / 0x4_0000) ∷ further (c / 0x1000) ∷ further (c / 0x40) ∷ further c ∷ []))

-- the bytes are the UTF-8 of characters that a document may have
abbrev pub is_text : List ℕ → Bool
is_text bs = list_all is_character (characters_of bs) && bytes_eq (flat_map utf8_of (characters_of bs)) bs

-- a name begins with an ASCII letter, `_`, `:` or a character past ASCII; that is wider than XML 1.0, 2.3
abbrev pub is_name_start : ℕ → Bool
is_name_start c = is_within 97 122 c || (is_within 65 90 c || ((c == 95) || ((c == 58) || nat_lt 127 c)))

-- and goes on with these, ASCII digits, `-` and `.`
abbrev pub is_name_part : ℕ → Bool
is_name_part c = is_name_start c || (is_within 48 57 c || ((c == 45) || (c == 46)))

abbrev pub are_name : List ℕ → Bool
are_name [] = false
are_name (c ∷ cs) = is_name_start c && list_all is_name_part cs

-- the bytes are the UTF-8 of a name
abbrev pub is_name : List ℕ → Bool
is_name bs = is_text bs && are_name (characters_of bs)
