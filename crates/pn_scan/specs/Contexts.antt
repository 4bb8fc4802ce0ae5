-- Which state of the machine a context is in a nesting, and which nestings admit a context.
use Rattle.std.specs.Prelude.{◌≡◌, ◌⊎◌, ℕ, ◌<◌, ◌≤◌, List, Bool, true, false, ◌==◌, [], ◌∷◌, codes, drop, Option, Some, None, if◌then◌else◌}
use Rattle.pn_markup.specs.Bytes.{is_space}
use Rattle.pn_text.specs.Characters.{is_text, is_name}
use Rattle.pn_tree.specs.Elements.{attr_value}
use Rattle.pn_scan.specs.State as m
use Rattle.pn_scan.specs.State.{Nesting, State, before, behind_piece}
use Rattle.pn_scan.specs.NextState.{goes_due, is_part_front}
use Rattle.pn_scan.specs.Nestings.{is_inside, levels_of, inner_of, outer_of, levels_for, outer_for, HasRoom}
use Rattle.pn_scan.specs.declared.context.Brackets.{Brackets}
use Rattle.pn_scan.specs.declared.context.Brackets.TheVariants.{Zero, One, Two}
use Rattle.pn_scan.specs.declared.context.Part.{Part}
use Rattle.pn_scan.specs.declared.context.Part.TheVariants as parts
use Rattle.pn_scan.specs.declared.context.Stage.{Stage}
use Rattle.pn_scan.specs.declared.context.Stage.TheVariants as stages
use Rattle.pn_scan.specs.declared.context.Holder.{Holder}
use Rattle.pn_scan.specs.declared.context.Holder.TheVariants as holders
use Rattle.pn_scan.specs.declared.context.Word.{Word}
use Rattle.pn_scan.specs.declared.context.Word.TheVariants as words
use Rattle.pn_scan.specs.declared.context.Then.{Then}
use Rattle.pn_scan.specs.declared.context.Then.TheVariants as thens
use Rattle.pn_scan.specs.declared.context.Context.{Context}
use Rattle.pn_scan.specs.declared.context.Kept.{Kept}
use Rattle.pn_scan.specs.declared.context.Context.TheVariants as contexts

abbrev pub brackets_of : Brackets → m.Brackets
brackets_of Zero = m.no_bracket
brackets_of One = m.one_bracket
brackets_of Two = m.two_brackets

abbrev pub part_of : Part → m.Part
part_of parts.Version = m.version
part_of parts.Encoding = m.encoding
part_of parts.Standalone = m.standalone

abbrev pub stage_of : Stage → m.Stage
stage_of stages.All = m.all_due
stage_of stages.FromEncoding = m.from_encoding
stage_of stages.FromStandalone = m.from_standalone
stage_of stages.Nothing = m.none_due

-- the name and the value are those that were read
abbrev pub holder_of : Nesting → List ℕ → List ℕ → Holder → m.Holder
holder_of p name value holders.Content = m.of_content (levels_of p) (inner_of p) (outer_of p)
holder_of p name value (holders.Value quote) = m.of_value (levels_of p) (outer_of p) (inner_of p) name quote value

-- the bytes of a word
abbrev pub bytes_of : Word → List ℕ
bytes_of words.End = codes ">"
bytes_of words.Dash = codes "-"
bytes_of words.Mark = 0xBB ∷ 0xBF ∷ []
bytes_of words.Section = codes "CDATA["
bytes_of words.Version = codes "ersion"
bytes_of words.Encoding = codes "ncoding"
bytes_of words.Standalone = codes "tandalone"

-- the state behind what is due
abbrev pub then_of : Nesting → Then → State
then_of p thens.First = m.outside true
then_of p thens.Between = behind_piece p
then_of p thens.Section = m.in_section (levels_of p) (inner_of p) (outer_of p) [] m.no_bracket false
then_of p thens.Comment = m.in_comment p false
then_of p (thens.BeforeEquals part) = m.before_part_equals (part_of part)

abbrev pub end_state : Nesting → State
end_state p = m.in_end (levels_of p) (inner_of p) (outer_of p)

-- what is due of an end tag's name behind so many bytes of it
abbrev pub end_of : Nesting → ℕ → State
end_of p read = goes_due (drop read (inner_of p).name) (end_state p)

-- the state that a context is, with what was read of it
abbrev pub state_of : Nesting → Kept → Context → State
state_of p k contexts.Start = m.at_start
state_of p k contexts.First = m.outside true
state_of p k contexts.Between = behind_piece p
state_of p k (contexts.Run brackets cr) = m.in_run (levels_of p) (inner_of p) (outer_of p) k.text.items (brackets_of brackets) cr
state_of p k (contexts.Markup first begin) = m.at_markup first p begin
state_of p k contexts.Bang = m.at_bang p
state_of p k (contexts.Comment dash) = m.in_comment p dash
state_of p k (contexts.Target first) = m.in_target first p k.name.items
state_of p k (contexts.Instruction question) = m.in_instruction p question
state_of p k (contexts.Section brackets cr) = m.in_section (levels_of p) (inner_of p) (outer_of p) k.text.items (brackets_of brackets) cr
state_of p k (contexts.Name begin) = m.in_name (levels_for p) (outer_for p) begin k.name.items
state_of p k (contexts.Tag spaced) = m.in_tag (levels_of p) (outer_of p) (inner_of p) spaced
state_of p k contexts.Attribute = m.in_attribute (levels_of p) (outer_of p) (inner_of p) k.name.items
state_of p k contexts.BeforeEquals = m.before_equals (levels_of p) (outer_of p) (inner_of p) k.name.items
state_of p k contexts.BehindEquals = m.behind_equals (levels_of p) (outer_of p) (inner_of p) k.name.items
state_of p k (contexts.Value quote cr) = m.in_value (levels_of p) (outer_of p) (inner_of p) k.name.items quote k.text.items cr
state_of p k (contexts.Reference holder) = m.at_reference (holder_of p k.name.items k.text.items holder)
state_of p k (contexts.Entity holder) = m.in_entity (holder_of p k.name.items k.text.items holder) k.entity.items
state_of p k (contexts.NumberSign holder) = m.at_number (holder_of p k.name.items k.text.items holder)
state_of p k (contexts.Number holder base number any) = m.in_number (holder_of p k.name.items k.text.items holder) base number any
state_of p k (contexts.Due word read next) = m.due (drop read (bytes_of word)) (then_of p next)
state_of p k (contexts.EndName read) = end_of p read
state_of p k (contexts.Declaration stage spaced) = m.in_declaration (stage_of stage) spaced
state_of p k (contexts.BeforePartEquals part) = m.before_part_equals (part_of part)
state_of p k (contexts.BehindPartEquals part) = m.behind_part_equals (part_of part)
state_of p k (contexts.PartValue part quote) = m.in_part (part_of part) quote k.text.items

-- what a byte behind the root makes
abbrev pub next_behind_root : Nesting → ℕ → ℕ → Option State
next_behind_root p at x = if is_space x then Some (behind_piece p) else (if x == 60 then Some (m.at_markup false p at) else None)

-- an element is open that has no kids yet
pub record IsTag (p : Nesting) : Type 0 where
  pub inside : is_inside p ≡ true
  pub before_kids : (inner_of p).kids ≡ []

abbrev pub AdmitsHolder : Nesting → Holder → Type 0
AdmitsHolder p holders.Content = is_inside p ≡ true
AdmitsHolder p (holders.Value quote) = IsTag p

abbrev pub AdmitsThen : Nesting → Then → Type 0
AdmitsThen p thens.First = p ≡ before
AdmitsThen p thens.Between = Unit {0}
AdmitsThen p thens.Section = is_inside p ≡ true
AdmitsThen p thens.Comment = Unit {0}
AdmitsThen p (thens.BeforeEquals part) = p ≡ before

-- a base of numbers, and a number that may still be that of a character
pub record FitsNumber (base number : ℕ) : Type 0 where
  pub is_base : (base ≡ 10) ⊎ (base ≡ 16)
  pub small : number ≤ 0x10_FFFF

-- a nesting admits a context
abbrev pub Admits : Nesting → Context → Type 0
Admits p contexts.Start = p ≡ before
Admits p contexts.First = p ≡ before
Admits p contexts.Between = Unit {0}
Admits p (contexts.Run brackets cr) = is_inside p ≡ true
Admits p (contexts.Markup first begin) = Unit {0}
Admits p contexts.Bang = Unit {0}
Admits p (contexts.Comment dash) = Unit {0}
Admits p (contexts.Target first) = Unit {0}
Admits p (contexts.Instruction question) = Unit {0}
Admits p (contexts.Section brackets cr) = is_inside p ≡ true
Admits p (contexts.Name begin) = HasRoom p
Admits p (contexts.Tag spaced) = IsTag p
Admits p contexts.Attribute = IsTag p
Admits p contexts.BeforeEquals = IsTag p
Admits p contexts.BehindEquals = IsTag p
Admits p (contexts.Value quote cr) = IsTag p
Admits p (contexts.Reference holder) = AdmitsHolder p holder
Admits p (contexts.Entity holder) = AdmitsHolder p holder
Admits p (contexts.NumberSign holder) = AdmitsHolder p holder
Admits p (contexts.Number holder base number any) = AdmitsHolder p holder × FitsNumber base number
Admits p (contexts.Due word read next) = (drop read (bytes_of word) ≡ [] → ⊥) × AdmitsThen p next
Admits p (contexts.EndName read) = is_inside p ≡ true
Admits p (contexts.Declaration stage spaced) = p ≡ before
Admits p (contexts.BeforePartEquals part) = p ≡ before
Admits p (contexts.BehindPartEquals part) = p ≡ before
Admits p (contexts.PartValue part quote) = p ≡ before

-- a byte of ASCII may end what a context keeps, which is a text, or a name, then
abbrev pub KeepsWhole : Kept → Context → Type 0
KeepsWhole k (contexts.Run brackets cr) = is_text k.text.items ≡ true
KeepsWhole k (contexts.Section brackets cr) = is_text k.text.items ≡ true
KeepsWhole k (contexts.Name begin) = is_name k.name.items ≡ true
KeepsWhole k contexts.Attribute = is_text k.name.items ≡ true
KeepsWhole k (contexts.Value quote cr) = is_text k.text.items ≡ true
KeepsWhole k _ = Unit {0}

-- a context in which few bytes of a document stand
abbrev pub is_rare : Context → Bool
is_rare contexts.Between = false
is_rare (contexts.Run brackets cr) = false
is_rare (contexts.Markup first begin) = false
is_rare (contexts.Name begin) = false
is_rare (contexts.Tag spaced) = false
is_rare contexts.Attribute = false
is_rare contexts.BehindEquals = false
is_rare (contexts.Value quote cr) = false
is_rare (contexts.Due word read next) = false
is_rare (contexts.EndName read) = false
is_rare _ = true

-- the name of an attribute whose value is read, and the quotes
pub record IsNewAttribute (p : Nesting) (name : List ℕ) (quote : ℕ) : Type 0 where
  pub is_name : is_name name ≡ true
  pub is_new : attr_value name (inner_of p).attrs ≡ None
  pub quoted : quote < 128

abbrev pub WasChecked : Nesting → Kept → Context → Type 0
WasChecked p k (contexts.Value quote cr) = IsNewAttribute p k.name.items quote
WasChecked p k (contexts.PartValue part quote) = is_part_front (part_of part) k.text.items ≡ true
WasChecked p k _ = Unit {0}
