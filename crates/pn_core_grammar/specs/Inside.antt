-- What is found in an object or a label.
use Rattle.std.specs.Prelude.{◌≡◌, ℕ, List, [], ◌∷◌, ◌++◌, codes, Option, Some, if◌then◌else◌}
use Rattle.std.specs.List.{find, filter}
use Rattle.std.specs.Option.{option_map, option_or}
use Rattle.pn_tree.specs.Views.{element_of}
use Rattle.pn_tree.specs.declared.element.Element.{Element}
use Rattle.pn_tree.specs.declared.view.View.{View}
use Rattle.pn_tree.specs.declared.view.Kid.{Kid}
use Rattle.pn_tree.specs.declared.view.Kid.TheVariants as kids
use Rattle.pn_spelling.specs.Parts.{child_elements, has_name, own_text}
use Rattle.pn_spelling.specs.ReadNets.{is_opaque_part}
use Rattle.pn_core_grammar.specs.declared.search.Inside.{Inside}

-- the first element of a name, with one more element
abbrev pub first_kept : List ℕ → View → Option View → Option View
first_kept name v before = if has_name name (element_of v) then option_or before (Some v) else before

-- what was found, with one more element that may be the first of its name
abbrev pub name_noted : View → Inside → Inside
name_noted v i = record i {
  name = first_kept (codes "name") v i.name;
  text = first_kept (codes "text") v i.text;
  structure = first_kept (codes "structure") v i.structure;
  marking = first_kept (codes "initialMarking") v i.marking;
  sort = first_kept (codes "type") v i.sort;
  hl_marking = first_kept (codes "hlinitialMarking") v i.hl_marking;
  condition = first_kept (codes "condition") v i.condition;
  weight = first_kept (codes "inscription") v i.weight;
  inscription = first_kept (codes "hlinscription") v i.inscription;
}

-- what was found, with one more element
abbrev pub noted : View → Inside → Inside
noted v i = record (name_noted v i) { opaque = if is_opaque_part (element_of v) then i.opaque ++ element_of v ∷ [] else i.opaque }

abbrev pub noted_kid : Kid → Inside → Inside
noted_kid (kids.Element v) i = noted v i
noted_kid (kids.Text t) i = i

-- this view shows the first element of a name
abbrev pub IsFirst : List Element → List ℕ → Option View → Type 0
IsFirst es name found = option_map element_of found ≡ find (has_name name) es

-- the first element of each name among some elements, and those that are kept as they are
pub record AreFoundAmong (es : List Element) (i : Inside) : Type 0 where
  pub name : IsFirst es (codes "name") i.name
  pub text : IsFirst es (codes "text") i.text
  pub structure : IsFirst es (codes "structure") i.structure
  pub marking : IsFirst es (codes "initialMarking") i.marking
  pub sort : IsFirst es (codes "type") i.sort
  pub hl_marking : IsFirst es (codes "hlinitialMarking") i.hl_marking
  pub condition : IsFirst es (codes "condition") i.condition
  pub weight : IsFirst es (codes "inscription") i.weight
  pub inscription : IsFirst es (codes "hlinscription") i.inscription
  pub opaque : i.opaque ≡ filter is_opaque_part es

-- what is found in an element
abbrev pub IsFoundIn : Element → Inside → Type 0
IsFoundIn e i = AreFoundAmong (child_elements e) i

-- the text in the element that may be shown
abbrev pub text_shown : Option View → Option (List ℕ)
text_shown v = option_map own_text (option_map element_of v)

-- the elements that a kid is: one or none
abbrev pub kid_elements : Kid → List Element
kid_elements (kids.Element v) = element_of v ∷ []
kid_elements (kids.Text t) = []
