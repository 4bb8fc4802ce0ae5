-- Bytes that stand for themselves in a context, so that many are taken at once.
use Rattle.std.specs.Prelude.{◌≡◌, ℕ, Bool, true, false, ◌==◌, ◌&&◌, ◌||◌, not, List, ◌++◌, nat_lt, nat_le}
use Rattle.std.specs.List.{list_all}
use Rattle.pn_text.specs.Characters.{is_within, is_name_part, is_text}
use Rattle.pn_markup.specs.Bytes.{is_space}
use Rattle.pn_scan.specs.State.{State, in_run, in_section, in_name, in_attribute, in_value}
use Rattle.pn_scan.specs.declared.context.Brackets.{Brackets}
use Rattle.pn_scan.specs.declared.context.Brackets.TheVariants.{Zero, One, Two}
use Rattle.pn_scan.specs.declared.context.Context.{Context}
use Rattle.pn_scan.specs.declared.context.Context.TheVariants as contexts

-- the characters of a document that are one byte, but CR
abbrev pub is_ascii : ℕ → Bool
is_ascii x = (x == 9) || ((x == 10) || is_within 0x20 0x7F x)

-- in content, but for what begins markup or a reference, and for `]` and `>`
abbrev pub is_ordinary_text : ℕ → Bool
is_ordinary_text x = is_ascii x && not ((x == 60) || ((x == 38) || ((x == 62) || (x == 93))))

-- in a name
abbrev pub is_ordinary_name : ℕ → Bool
is_ordinary_name x = nat_lt x 0x80 && is_name_part x

-- in a value in these quotes, but for `<` and what begins a reference; of white space only the space stands for itself
abbrev pub is_ordinary_value : ℕ → ℕ → Bool
is_ordinary_value quote x = is_within 0x20 0x7F x && not ((x == quote) || ((x == 60) || (x == 38)))

-- in a comment or an instruction, but for the byte with which its end may begin
abbrev pub is_ordinary_but : ℕ → ℕ → Bool
is_ordinary_but mark x = is_ascii x && not (x == mark)

abbrev pub never : ℕ → Bool
never x = false

-- a byte of a character past ASCII
abbrev pub is_high : ℕ → Bool
is_high x = nat_le 0x80 x

abbrev pub or_high : (ℕ → Bool) → ℕ → Bool
or_high passes x = is_high x || passes x

-- the same tests, with the bytes past ASCII, where such a byte may stand: not behind a bracket, a CR or what an end may begin with
abbrev pub ordinary_text : Brackets → Bool → ℕ → Bool
ordinary_text Zero false = or_high is_ordinary_text
ordinary_text Zero true = never
ordinary_text One cr = never
ordinary_text Two cr = never

abbrev pub ordinary_value : ℕ → Bool → ℕ → Bool
ordinary_value quote false = or_high (is_ordinary_value quote)
ordinary_value quote true = never

abbrev pub ordinary_but : ℕ → Bool → ℕ → Bool
ordinary_but mark false = or_high (is_ordinary_but mark)
ordinary_but mark true = never

-- white space in a tag behind white space
abbrev pub ordinary_space : Bool → ℕ → Bool
ordinary_space true = is_space
ordinary_space false = never

-- whether a byte stands for itself in a context
abbrev pub is_ordinary : Context → ℕ → Bool
is_ordinary (contexts.Run brackets cr) = ordinary_text brackets cr
is_ordinary (contexts.Section brackets cr) = ordinary_text brackets cr
is_ordinary (contexts.Name begin) = or_high is_ordinary_name
is_ordinary (contexts.Tag spaced) = ordinary_space spaced
is_ordinary contexts.Attribute = or_high is_ordinary_name
is_ordinary (contexts.Value quote cr) = ordinary_value quote cr
is_ordinary (contexts.Comment dash) = ordinary_but 45 dash
is_ordinary (contexts.Instruction question) = ordinary_but 63 question
is_ordinary _ = never

-- characters whole, each byte of which passes
pub record IsSlice (passes : ℕ → Bool) (xs : List ℕ) : Type 0 where
  pub whole : is_text xs ≡ true
  pub ordinary : list_all passes xs ≡ true

-- the state behind bytes that stand for themselves
abbrev pub behind_ordinary : State → List ℕ → State
behind_ordinary (in_run levels e outer text b cr) xs = in_run levels e outer (text ++ xs) b cr
behind_ordinary (in_section levels e outer text b cr) xs = in_section levels e outer (text ++ xs) b cr
behind_ordinary (in_name levels outer begin name) xs = in_name levels outer begin (name ++ xs)
behind_ordinary (in_attribute levels outer e name) xs = in_attribute levels outer e (name ++ xs)
behind_ordinary (in_value levels outer e name quote value cr) xs = in_value levels outer e name quote (value ++ xs) cr
behind_ordinary s xs = s
