-- White space, names, and texts up to a mark: XML 1.0, sections 2.2, 2.3 and 2.11. A document is a text in UTF-8, so a byte past 127 is a part of a character past ASCII.
use Rattle.std.specs.Prelude.{◌≡◌, ℕ, Bool, true, false, ◌==◌, ◌&&◌, ◌||◌, not, List, [], ◌∷◌, if◌then◌else◌}
use Rattle.std.specs.List.{list_all}
use Rattle.pn_text.specs.Characters.{are_name}

-- white space: space, tab, LF, CR
abbrev pub is_space : ℕ → Bool
is_space b = (b == 32) || ((b == 9) || ((b == 10) || (b == 13)))

-- white space that may be absent (2.3, S?)
abbrev pub MaybeSpace : List ℕ → Type 0
MaybeSpace b = list_all is_space b ≡ true

-- white space (2.3, S)
abbrev pub Space : List ℕ → Type 0
Space [] = ⊥
Space (b ∷ bs) = MaybeSpace (b ∷ bs)

-- a name (2.3, Name): an ASCII letter, `_`, `:` or past ASCII, then also digits, `-` and `.`; wider than XML 1.0
abbrev pub Name : List ℕ → Type 0
Name b = are_name b ≡ true

-- `"` or `'`
abbrev pub is_quote : ℕ → Bool
is_quote b = (b == 34) || (b == 39)

-- whether a list has another at its front
abbrev pub begins_with : List ℕ → List ℕ → Bool
begins_with [] b = true
begins_with (m ∷ ms) [] = false
begins_with (m ∷ ms) (b ∷ bs) = (m == b) && begins_with ms bs

-- whether a mark stands nowhere in a list
abbrev pub lacks : List ℕ → List ℕ → Bool
lacks mark [] = true
lacks mark (b ∷ bs) = not (begins_with mark (b ∷ bs)) && lacks mark bs

-- line ends (2.11): CR LF and CR are read as LF. Here behind a CR, or not
abbrev pub line_ends_behind : Bool → List ℕ → List ℕ
line_ends_behind cr [] = []
line_ends_behind cr (b ∷ bs) =
    if b == 13
    then 10 ∷ line_ends_behind true bs
    else (if (b == 10) && cr
    then line_ends_behind false bs
    else b ∷ line_ends_behind false bs)

abbrev pub line_ends : List ℕ → List ℕ
line_ends = line_ends_behind false

-- white space in a value (3.3.3): each is read as a space, CR LF as one. Here behind a CR, or not
abbrev pub spaced_behind : Bool → List ℕ → List ℕ
spaced_behind cr [] = []
spaced_behind cr (b ∷ bs) =
    if b == 13
    then 32 ∷ spaced_behind true bs
    else (if (b == 10) && cr
    then spaced_behind false bs
    else (if is_space b then 32 else b) ∷ spaced_behind false bs)

abbrev pub spaced : List ℕ → List ℕ
spaced = spaced_behind false
