-- Texts between quotation marks, and what comes of one more byte of one. The state is what the next byte stands behind.
use Rattle.std.specs.Prelude.{◌≡◌, ℕ, true, List, [], ◌∷◌, ◌++◌, Some, codes}
use Rattle.pn_lines.specs.Escapes.{escape, escaped}
use Rattle.pn_text.specs.Characters.{is_text}
use Rattle.pn_utf8.specs.Characters.{AreOpen, is_whole, open_behind}
use Rattle.pn_utf8.specs.Open.{open_bytes}
use Rattle.pn_mode_text.specs.declared.quoted.Inside.{Inside}
use Rattle.pn_mode_text.specs.declared.quoted.Inside.TheVariants as insides
use Rattle.pn_mode_text.specs.declared.quoted.Turn.{Turn}
use Rattle.pn_mode_text.specs.declared.quoted.Turn.TheVariants as turns

-- a text of characters that a document may have: escaped, and a quotation mark behind it
abbrev pub IsEnded : List ℕ → List ℕ → Type 0
IsEnded t w = (is_text t ≡ true) × (w ≡ escaped t ++ codes "\"")

-- a text of characters that a document may have: escaped, between quotation marks
abbrev pub IsQuoted : List ℕ → List ℕ → Type 0
IsQuoted t w = (is_text t ≡ true) × (w ≡ codes "\"" ++ (escaped t ++ codes "\""))

-- the bytes of the character that is not whole yet
abbrev pub open_of : Inside → List ℕ
open_of (insides.Text begun) = open_bytes begun
open_of insides.Percent = []
open_of (insides.Digit high) = []

-- the bytes of the escape that is not whole yet
abbrev pub escape_of : Inside → List ℕ
escape_of (insides.Text begun) = []
escape_of insides.Percent = 37 ∷ []
escape_of (insides.Digit high) = 37 ∷ high ∷ []

-- the first digit of the escape of a character that a document may have
abbrev pub BeginsEscape : ℕ → Type 0
BeginsEscape high = (x : ℕ) × (low : ℕ) × (is_whole (x ∷ []) ≡ true) × (escape x ≡ 37 ∷ high ∷ low ∷ [])

-- some text goes on so
abbrev pub IsStanding : Inside → Type 0
IsStanding (insides.Text begun) = AreOpen (open_bytes begun)
IsStanding insides.Percent = Unit {0}
IsStanding (insides.Digit high) = BeginsEscape high

-- these bytes may come: more of the text, escaped, and the quotation mark
abbrev pub Comes : Inside → List ℕ → Type 0
Comes s c = (t : List ℕ) × (is_text (open_of s ++ t) ≡ true) × (escaped t ++ codes "\"" ≡ escape_of s ++ c)

-- the escape has one byte more; or it is whole, that of the next byte of the text; or the text is whole, and the byte is the quotation mark behind it; or no
-- text goes on so
abbrev pub ComesOf : Inside → ℕ → Turn → Type 0
ComesOf s x (turns.Within next) = (open_of next ≡ open_of s) × (escape_of next ≡ escape_of s ++ x ∷ []) × IsStanding next
ComesOf s x (turns.Byte byte begun) = (escape byte ≡ escape_of s ++ x ∷ []) × (open_behind (open_of s) byte ≡ Some (open_bytes begun))
ComesOf s x turns.End = (open_of s ≡ []) × (escape_of s ≡ []) × (x ≡ 34)
ComesOf s x turns.Stop = (c : List ℕ) → Comes s (x ∷ c) → ⊥
