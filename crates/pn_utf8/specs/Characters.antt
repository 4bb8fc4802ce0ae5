-- The bytes of a character in UTF-8, one after another (RFC 3629; the Unicode Standard, table 3-7), without the characters that a document may not have.
use Rattle.std.specs.Prelude.{◌≡◌, ℕ, Bool, true, false, nat_lt, ◌==◌, ◌&&◌, ◌||◌, List, [], ◌∷◌, ◌++◌, Option, Some, None, if◌then◌else◌}
use Rattle.pn_text.specs.Characters.{is_within, is_character, is_text}

-- a byte behind the first of a character
abbrev pub is_further : ℕ → Bool
is_further b = is_within 0x80 0xBF b

-- the first two bytes of a character of three bytes
abbrev pub begin_three : ℕ → ℕ → Bool
begin_three a b =
    ((a == 0xE0) && is_within 0xA0 0xBF b) || ((is_within 0xE1 0xEC a && is_further b) || (((a == 0xED) && is_within 0x80 0x9F b) || (is_within 0xEE 0xEF a && is_further b)))

-- the first two bytes of a character of four bytes
abbrev pub begin_four : ℕ → ℕ → Bool
begin_four a b = ((a == 0xF0) && is_within 0x90 0xBF b) || ((is_within 0xF1 0xF3 a && is_further b) || ((a == 0xF4) && is_within 0x80 0x8F b))

-- U+FFFE and U+FFFF are no characters of a document
abbrev pub is_last_pair : ℕ → ℕ → ℕ → Bool
is_last_pair a b c = (a == 0xEF) && ((b == 0xBF) && nat_lt 0xBD c)

-- a character whole
abbrev pub is_whole : List ℕ → Bool
is_whole [] = false
is_whole (a ∷ []) = nat_lt a 0x80 && is_character a
is_whole (a ∷ b ∷ []) = is_within 0xC2 0xDF a && is_further b
is_whole (a ∷ b ∷ c ∷ []) = begin_three a b && (if is_last_pair a b c then false else is_further c)
is_whole (a ∷ b ∷ c ∷ d ∷ []) = begin_four a b && (is_further c && is_further d)
is_whole (a ∷ b ∷ c ∷ d ∷ e ∷ es) = false

-- a character that is not whole yet
abbrev pub is_begun : List ℕ → Bool
is_begun [] = false
is_begun (a ∷ []) = is_within 0xC2 0xF4 a
is_begun (a ∷ b ∷ []) = begin_three a b || begin_four a b
is_begun (a ∷ b ∷ c ∷ []) = begin_four a b && is_further c
is_begun (a ∷ b ∷ c ∷ d ∷ es) = false

abbrev pub character_behind : List ℕ → Option (List ℕ)
character_behind bytes = if is_whole bytes then Some [] else (if is_begun bytes then Some bytes else None)

-- one more byte behind those of a character that is not whole yet: those that are open then, or none where no document goes on so
abbrev pub open_behind : List ℕ → ℕ → Option (List ℕ)
open_behind open_bytes x = character_behind (open_bytes ++ (x ∷ []))

-- no bytes, or those of a character that is not whole yet
abbrev pub AreOpen : List ℕ → Type 0
AreOpen [] = Unit {0}
AreOpen (b ∷ bs) = is_begun (b ∷ bs) ≡ true

-- whole characters, and the open bytes behind them
abbrev pub Cut : List ℕ → List ℕ → Type 0
Cut b open_bytes = (whole : List ℕ) × (is_text whole ≡ true) × (b ≡ whole ++ open_bytes)
