-- What holds of each state that a document's front leads to. The bytes p are those of the character that is not whole yet.
use Rattle.std.specs.Prelude.{◌≡◌, ◌⊎◌, ℕ, suc, ◌≤◌, Bool, true, false, List, [], ◌∷◌, ◌++◌, None}
use Rattle.pn_text.specs.Characters.{is_text}
use Rattle.pn_tree.specs.Elements.{attr_value}
use Rattle.pn_markup.specs.Bytes.{is_quote, Name}
use Rattle.pn_tree.specs.declared.element.Element.{Element}
use Rattle.pn_scan.specs.State.{Nesting, Holder, Brackets, State, before, within, behind, of_content, of_value, no_bracket, one_bracket, two_brackets, at_start, outside, at_end, in_run, at_markup, at_bang, in_comment, in_target, in_instruction, in_section, in_name, in_tag, in_attribute, before_equals, behind_equals, in_value, at_reference, in_entity, at_number, in_number, due, in_end, in_declaration, before_part_equals, behind_part_equals, in_part}
use Rattle.pn_scan.specs.NextState.{entity_of, is_entity_front, is_part_front}
use Rattle.pn_utf8.specs.Characters.{Cut}

-- the names of elements are texts
abbrev pub AreTexts : List Element → Type 0
AreTexts [] = Unit {0}
AreTexts (e ∷ es) = (is_text e.name ≡ true) × AreTexts es

abbrev pub OfNesting : Nesting → Type 0
OfNesting before = Unit {0}
OfNesting (within levels e outer) = AreTexts (e ∷ outer)
OfNesting (behind root) = Unit {0}

-- an attribute of which the name was read
pub record OfName (e : Element) (name : List ℕ) : Type 0 where
  pub is_name : Name name
  pub is_text : is_text name ≡ true
  pub is_new : attr_value name e.attrs ≡ None

pub record OfValue (outer : List Element) (e : Element) (name : List ℕ) (quote : ℕ) : Type 0 where
  pub texts : AreTexts (e ∷ outer)
  pub attribute : OfName e name
  pub quoted : is_quote quote ≡ true

abbrev pub OfHolder : Holder → Type 0
OfHolder (of_content levels e outer) = AreTexts (e ∷ outer)
OfHolder (of_value levels outer e name quote value) = OfValue outer e name quote × (is_text value ≡ true)

-- a name, or nothing of one
abbrev pub MaybeName : List ℕ → List ℕ → Type 0
MaybeName [] p = p ≡ []
MaybeName (n ∷ ns) p = Name (n ∷ ns)

-- brackets are whole characters
abbrev pub AreWhole : Brackets → List ℕ → Type 0
AreWhole no_bracket p = Unit {0}
AreWhole one_bracket p = p ≡ []
AreWhole two_brackets p = p ≡ []

pub record OfNumber (base n : ℕ) (any : Bool) : Type 0 where
  pub is_base : (base ≡ 10) ⊎ (base ≡ 16)
  pub small : n ≤ 0x10_FFFF
  pub none : any ≡ false → n ≡ 0

abbrev pub IsViable : State → ℕ → List ℕ → Type 0
IsViable at_start at p = p ≡ []
IsViable (outside first) at p = p ≡ []
IsViable (at_end root) at p = p ≡ []
IsViable (in_run levels e outer text b cr) at p = AreTexts (e ∷ outer) × Cut text p
IsViable (at_markup first nesting begin) at p = OfNesting nesting × (p ≡ []) × (at ≡ suc begin)
IsViable (at_bang nesting) at p = OfNesting nesting × (p ≡ [])
IsViable (in_comment nesting dash) at p = OfNesting nesting
IsViable (in_target first nesting name) at p = OfNesting nesting × MaybeName name p
IsViable (in_instruction nesting question) at p = OfNesting nesting
IsViable (in_section levels e outer text b cr) at p = AreTexts (e ∷ outer) × Cut text p × AreWhole b p
IsViable (in_name levels outer begin name) at p = AreTexts outer × Name name × Cut name p
IsViable (in_tag levels outer e spaced) at p = AreTexts (e ∷ outer) × (p ≡ [])
IsViable (in_attribute levels outer e name) at p = AreTexts (e ∷ outer) × Name name × Cut name p
IsViable (before_equals levels outer e name) at p = AreTexts (e ∷ outer) × OfName e name × (p ≡ [])
IsViable (behind_equals levels outer e name) at p = AreTexts (e ∷ outer) × OfName e name × (p ≡ [])
IsViable (in_value levels outer e name quote value cr) at p = OfValue outer e name quote × Cut value p
IsViable (at_reference holder) at p = OfHolder holder × (p ≡ [])
IsViable (in_entity holder part) at p = OfHolder holder × (p ≡ []) × (entity_of part ≡ None) × (is_entity_front part ≡ true)
IsViable (at_number holder) at p = OfHolder holder × (p ≡ [])
IsViable (in_number holder base n any) at p = OfHolder holder × (p ≡ []) × OfNumber base n any
IsViable (due left s) at p = (left ≡ [] → ⊥) × (is_text (p ++ left) ≡ true) × ((n : ℕ) → IsViable s n [])
IsViable (in_end levels e outer) at p = AreTexts outer × (p ≡ [])
IsViable (in_declaration stage spaced) at p = p ≡ []
IsViable (before_part_equals part) at p = p ≡ []
IsViable (behind_part_equals part) at p = p ≡ []
IsViable (in_part part quote value) at p = (p ≡ []) × (is_quote quote ≡ true) × (is_part_front part value ≡ true)
