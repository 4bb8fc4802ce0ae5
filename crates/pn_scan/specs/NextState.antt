-- What one more byte makes of a state: the next state, or none where no document goes on so.
use Rattle.std.specs.Prelude.{ℕ, suc, ◌+◌, ◌*◌, nat_le, Bool, true, false, ◌==◌, ◌&&◌, ◌||◌, List, [], ◌∷◌, ◌++◌, codes, map, Option, Some, None, is_none, if◌then◌else◌}
use Rattle.std.specs.List.{list_all}
use Rattle.std.specs.Char.{to_ascii_lowercase, digit_value}
use Rattle.std.specs.Str.{bytes_eq}
use Rattle.pn_text.specs.Characters.{is_within, is_name_start, is_name_part, is_character, utf8_of}
use Rattle.pn_tree.specs.Building.{with_attr, with_text}
use Rattle.pn_tree.specs.Elements.{attr_value}
use Rattle.pn_tree.specs.declared.element.Element.{Element}
use Rattle.pn_markup.specs.Bytes.{is_space, is_quote, begins_with}
use Rattle.pn_markup.specs.Misc.{is_xml}
use Rattle.pn_markup.specs.References.{Entity, lt, gt, amp, apos, quot, entity_text, is_digit}
use Rattle.pn_markup.specs.Tags.{named}
use Rattle.pn_scan.specs.Rest.{brackets, may_come, may_end, stage_behind, is_part_value}
use Rattle.pn_scan.specs.State.{Nesting, Holder, Part, Stage, Brackets, State, before, within, behind, of_content, of_value, version, encoding, standalone, all_due, no_bracket, one_bracket, two_brackets, at_start, outside, at_end, in_run, at_markup, at_bang, in_comment, in_target, in_instruction, in_section, in_name, in_tag, in_attribute, before_equals, behind_equals, in_value, at_reference, in_entity, at_number, in_number, due, in_end, in_declaration, before_part_equals, behind_part_equals, in_part, behind_element, behind_piece, behind_reference, room_at}

-- these bytes are due, if any
abbrev pub goes_due : List ℕ → State → State
goes_due [] s = s
goes_due (b ∷ bs) s = due (b ∷ bs) s

abbrev pub next_outside : Bool → ℕ → ℕ → Option State
next_outside first at x = if is_space x then Some (outside false) else (if x == 60 then Some (at_markup first before at) else None)

-- what a byte of a run adds to its text, behind a CR or not
abbrev pub line_text : Bool → ℕ → List ℕ
line_text cr x = if x == 13 then 10 ∷ [] else (if (x == 10) && cr then [] else x ∷ [])

-- what a byte of a value adds to it
abbrev pub space_text : Bool → ℕ → List ℕ
space_text cr x = if x == 13 then 32 ∷ [] else (if (x == 10) && cr then [] else (if is_space x then 32 else x) ∷ [])

abbrev pub one_more : Brackets → Brackets
one_more no_bracket = one_bracket
one_more one_bracket = two_brackets
one_more two_brackets = two_brackets

abbrev pub are_two : Brackets → Bool
are_two two_brackets = true
are_two _ = false

abbrev pub brackets_behind : Brackets → ℕ → Brackets
brackets_behind b x = if x == 93 then one_more b else no_bracket

abbrev pub next_in_run : ℕ → Element → List Element → List ℕ → Brackets → Bool → ℕ → ℕ → Option State
next_in_run levels e outer text b cr at x =
    if x == 60
    then Some (at_markup false (within levels (with_text text e) outer) at)
    else (if x == 38
    then Some (at_reference (of_content levels (with_text text e) outer))
    else (if (x == 62) && are_two b
    then None
    else Some (in_run levels e outer (text ++ line_text cr x) (brackets_behind b x) (x == 13))))

abbrev pub end_begins : Nesting → Option State
end_begins (within levels e outer) = Some (goes_due e.name (in_end levels e outer))
end_begins _ = None

abbrev pub name_begins : Option (ℕ × List Element) → ℕ → ℕ → Option State
name_begins (Some room) at x = Some (in_name room.0 room.1 at (x ∷ []))
name_begins None at x = None

abbrev pub next_at_markup : Bool → Nesting → ℕ → ℕ → Option State
next_at_markup first nesting at x =
    if x == 33
    then Some (at_bang nesting)
    else (if x == 63
    then Some (in_target first nesting [])
    else (if x == 47
    then end_begins nesting
    else (if is_name_start x
    then name_begins (room_at nesting) at x
    else None)))

abbrev pub section_begins : Nesting → Option State
section_begins (within levels e outer) = Some (due (codes "CDATA[") (in_section levels e outer [] no_bracket false))
section_begins _ = None

abbrev pub next_at_bang : Nesting → ℕ → Option State
next_at_bang nesting x = if x == 45 then Some (due (codes "-") (in_comment nesting false)) else (if x == 91 then section_begins nesting else None)

abbrev pub next_in_comment : Nesting → Bool → ℕ → Option State
next_in_comment nesting true x = if x == 45 then Some (due (codes ">") (behind_piece nesting)) else Some (in_comment nesting false)
next_in_comment nesting false x = if x == 45 then Some (in_comment nesting true) else Some (in_comment nesting false)

abbrev pub is_before : Nesting → Bool
is_before before = true
is_before _ = false

abbrev pub next_in_target : Bool → Nesting → List ℕ → ℕ → Option State
next_in_target first nesting [] x = if is_name_start x then Some (in_target first nesting (x ∷ [])) else None
next_in_target first nesting (n ∷ ns) x =
    if is_name_part x
    then Some (in_target first nesting ((n ∷ ns) ++ (x ∷ [])))
    else (if is_space x && (first && (is_before nesting && bytes_eq (n ∷ ns) (codes "xml")))
    then Some (in_declaration all_due true)
    else (if is_xml (n ∷ ns)
    then None
    else (if is_space x
    then Some (in_instruction nesting false)
    else (if x == 63
    then Some (due (codes ">") (behind_piece nesting))
    else None))))

abbrev pub next_in_instruction : Nesting → Bool → ℕ → Option State
next_in_instruction nesting true x = if x == 62 then Some (behind_piece nesting) else (if x == 63 then Some (in_instruction nesting true) else Some (in_instruction nesting false))
next_in_instruction nesting false x = if x == 63 then Some (in_instruction nesting true) else Some (in_instruction nesting false)

-- a bracket in a section: of three the first is text
abbrev pub bracket_in : ℕ → Element → List Element → List ℕ → Brackets → Bool → State
bracket_in levels e outer text no_bracket cr = in_section levels e outer text one_bracket cr
bracket_in levels e outer text one_bracket cr = in_section levels e outer text two_brackets cr
bracket_in levels e outer text two_brackets cr = in_section levels e outer (text ++ (93 ∷ [])) two_brackets false

-- whether a CR stands right before, where so many brackets stand between
abbrev pub cr_behind : Brackets → Bool → Bool
cr_behind no_bracket cr = cr
cr_behind _ cr = false

abbrev pub next_in_section : ℕ → Element → List Element → List ℕ → Brackets → Bool → ℕ → Option State
next_in_section levels e outer text b cr x =
    if x == 93
    then Some (bracket_in levels e outer text b cr)
    else (if (x == 62) && are_two b
    then Some (behind_piece (within levels (with_text text e) outer))
    else Some (in_section levels e outer ((text ++ brackets b) ++ line_text (cr_behind b cr) x) no_bracket (x == 13)))

abbrev pub next_in_tag : ℕ → List Element → Element → Bool → ℕ → Option State
next_in_tag levels outer e spaced x =
    if is_space x
    then Some (in_tag levels outer e true)
    else (if x == 47
    then Some (due (codes ">") (behind_element (suc levels) outer e))
    else (if x == 62
    then Some (in_run levels e outer [] no_bracket false)
    else (if spaced && is_name_start x
    then Some (in_attribute levels outer e (x ∷ []))
    else None)))

abbrev pub next_before_equals : ℕ → List Element → Element → List ℕ → ℕ → Option State
next_before_equals levels outer e name x =
    if is_space x then Some (before_equals levels outer e name) else (if x == 61 then Some (behind_equals levels outer e name) else None)

abbrev pub next_behind_equals : ℕ → List Element → Element → List ℕ → ℕ → Option State
next_behind_equals levels outer e name x =
    if is_space x then Some (behind_equals levels outer e name) else (if is_quote x then Some (in_value levels outer e name x [] false) else None)

abbrev pub next_in_value : ℕ → List Element → Element → List ℕ → ℕ → List ℕ → Bool → ℕ → Option State
next_in_value levels outer e name quote value cr x =
    if x == quote
    then Some (in_tag levels outer (with_attr name value e) false)
    else (if x == 60
    then None
    else (if x == 38
    then Some (at_reference (of_value levels outer e name quote value))
    else Some (in_value levels outer e name quote (value ++ space_text cr x) (x == 13))))

-- the entity whose name and `;` these bytes are
abbrev pub entity_of : List ℕ → Option Entity
entity_of b =
    if bytes_eq b (codes "lt;")
    then Some lt
    else (if bytes_eq b (codes "gt;")
    then Some gt
    else (if bytes_eq b (codes "amp;")
    then Some amp
    else (if bytes_eq b (codes "apos;")
    then Some apos
    else (if bytes_eq b (codes "quot;")
    then Some quot
    else None))))

-- whether the name of an entity begins so
abbrev pub is_entity_front : List ℕ → Bool
is_entity_front b =
    begins_with b (codes "lt;") || (begins_with b (codes "gt;") || (begins_with b (codes "amp;") || (begins_with b (codes "apos;") || begins_with b (codes "quot;"))))

abbrev pub entity_found : Holder → List ℕ → Option Entity → Option State
entity_found holder part (Some entity) = Some (behind_reference holder (entity_text entity))
entity_found holder part None = if is_entity_front part then Some (in_entity holder part) else None

abbrev pub next_in_entity : Holder → List ℕ → ℕ → Option State
next_in_entity holder part x = entity_found holder (part ++ (x ∷ [])) (entity_of (part ++ (x ∷ [])))

abbrev pub next_in_number : Holder → ℕ → ℕ → Bool → ℕ → Option State
next_in_number holder base n any x =
    if is_digit base x
    then (if nat_le (n * base + digit_value x) 0x10_FFFF then Some (in_number holder base (n * base + digit_value x) true) else None)
    else (if (x == 59) && (any && is_character n)
    then Some (behind_reference holder (utf8_of n))
    else None)

abbrev pub next_due : List ℕ → State → ℕ → Option State
next_due [] s x = None
next_due (b ∷ bs) s x = if b == x then Some (goes_due bs s) else None

abbrev pub part_begins : Stage → ℕ → Option State
part_begins stage x =
    if (x == 118) && may_come stage version
    then Some (due (codes "ersion") (before_part_equals version))
    else (if (x == 101) && may_come stage encoding
    then Some (due (codes "ncoding") (before_part_equals encoding))
    else (if (x == 115) && may_come stage standalone
    then Some (due (codes "tandalone") (before_part_equals standalone))
    else None))

abbrev pub next_in_declaration : Stage → Bool → ℕ → Option State
next_in_declaration stage spaced x =
    if is_space x
    then Some (in_declaration stage true)
    else (if (x == 63) && may_end stage
    then Some (due (codes ">") (outside false))
    else (if spaced
    then part_begins stage x
    else None))

abbrev pub is_version_front : List ℕ → Bool
is_version_front [] = true
is_version_front (a ∷ []) = a == 49
is_version_front (a ∷ b ∷ ds) = ((a == 49) && (b == 46)) && list_all (is_within 48 57) ds

-- whether a value of a part begins so
abbrev pub is_part_front : Part → List ℕ → Bool
is_part_front version b = is_version_front b
is_part_front encoding b = begins_with (map to_ascii_lowercase b) (codes "utf-8") || begins_with (map to_ascii_lowercase b) (codes "us-ascii")
is_part_front standalone b = begins_with b (codes "yes") || begins_with b (codes "no")

abbrev pub next_in_part : Part → ℕ → List ℕ → ℕ → Option State
next_in_part p quote value x =
    if x == quote
    then (if is_part_value p value then Some (in_declaration (stage_behind p) false) else None)
    else (if is_part_front p (value ++ (x ∷ []))
    then Some (in_part p quote (value ++ (x ∷ [])))
    else None)

-- the state behind a byte x at the offset `at`
abbrev pub next_state : State → ℕ → ℕ → Option State
next_state at_start at x = if x == 0xEF then Some (due (0xBB ∷ 0xBF ∷ []) (outside true)) else next_outside true at x
next_state (outside first) at x = next_outside first at x
next_state (at_end root) at x = if is_space x then Some (at_end root) else (if x == 60 then Some (at_markup false (behind root) at) else None)
next_state (in_run levels e outer text b cr) at x = next_in_run levels e outer text b cr at x
next_state (at_markup first nesting begin) at x = next_at_markup first nesting begin x
next_state (at_bang nesting) at x = next_at_bang nesting x
next_state (in_comment nesting dash) at x = next_in_comment nesting dash x
next_state (in_target first nesting name) at x = next_in_target first nesting name x
next_state (in_instruction nesting question) at x = next_in_instruction nesting question x
next_state (in_section levels e outer text b cr) at x = next_in_section levels e outer text b cr x
next_state (in_name levels outer begin name) at x =
    if is_name_part x then Some (in_name levels outer begin (name ++ (x ∷ []))) else next_in_tag levels outer (named name begin) false x
next_state (in_tag levels outer e spaced) at x = next_in_tag levels outer e spaced x
next_state (in_attribute levels outer e name) at x =
    if is_name_part x
    then Some (in_attribute levels outer e (name ++ (x ∷ [])))
    else (if is_none (attr_value name e.attrs)
    then next_before_equals levels outer e name x
    else None)
next_state (before_equals levels outer e name) at x = next_before_equals levels outer e name x
next_state (behind_equals levels outer e name) at x = next_behind_equals levels outer e name x
next_state (in_value levels outer e name quote value cr) at x = next_in_value levels outer e name quote value cr x
next_state (at_reference holder) at x = if x == 35 then Some (at_number holder) else next_in_entity holder [] x
next_state (in_entity holder part) at x = next_in_entity holder part x
next_state (at_number holder) at x = if x == 120 then Some (in_number holder 16 0 false) else next_in_number holder 10 0 false x
next_state (in_number holder base n any) at x = next_in_number holder base n any x
next_state (due left s) at x = next_due left s x
next_state (in_end levels e outer) at x = if is_space x then Some (in_end levels e outer) else (if x == 62 then Some (behind_element (suc levels) outer e) else None)
next_state (in_declaration stage spaced) at x = next_in_declaration stage spaced x
next_state (before_part_equals p) at x = if is_space x then Some (before_part_equals p) else (if x == 61 then Some (behind_part_equals p) else None)
next_state (behind_part_equals p) at x = if is_space x then Some (behind_part_equals p) else (if is_quote x then Some (in_part p x []) else None)
next_state (in_part p quote value) at x = next_in_part p quote value x
