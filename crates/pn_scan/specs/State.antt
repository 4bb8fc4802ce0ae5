-- What the bytes so far leave open.
use Rattle.std.specs.Prelude.{ℕ, suc, Bool, false, List, [], ◌∷◌, ◌++◌, Option, Some, None}
use Rattle.pn_tree.specs.Building.{with_kid, with_text}
use Rattle.pn_tree.specs.declared.element.Element.{Element}
use Rattle.pn_tree.specs.declared.element.Child.TheVariants as children

-- where a piece of content stands: before the root, within an open element, or behind the root. Of the open elements the innermost is apart, each as far
-- as it was read, and so many levels are left within the innermost
pub data Nesting : Type 0 where
  before : Nesting
  within : ℕ → Element → List Element → Nesting
  behind : Element → Nesting

-- what a reference stands in: content, or the value of an attribute of this name, in these quotes, as far as it was read
pub data Holder : Type 0 where
  of_content : ℕ → Element → List Element → Holder
  of_value : ℕ → List Element → Element → List ℕ → ℕ → List ℕ → Holder

-- the parts of an XML declaration
pub data Part : Type 0 where
  version encoding standalone : Part

-- which parts may still come: all from the version on, those behind the version, the last, none
pub data Stage : Type 0 where
  all_due from_encoding from_standalone none_due : Stage

-- how many brackets a run ends in
pub data Brackets : Type 0 where
  no_bracket one_bracket two_brackets : Brackets

pub data State : Type 0 where
  -- nothing was read
  at_start : State
  -- before the root, where a declaration may still come or not
  outside : Bool → State
  -- behind the root
  at_end : Element → State
  -- in a run: what it stands for so far, the brackets that it ends in, and whether it ends in CR
  in_run : ℕ → Element → List Element → List ℕ → Brackets → Bool → State
  -- behind a `<` at this offset; and whether it may begin a declaration
  at_markup : Bool → Nesting → ℕ → State
  -- behind `<!`
  at_bang : Nesting → State
  -- in a comment, and whether behind a `-`
  in_comment : Nesting → Bool → State
  -- in the name of a processing instruction, or in what may be a declaration
  in_target : Bool → Nesting → List ℕ → State
  -- in the text of a processing instruction, and whether behind a `?`
  in_instruction : Nesting → Bool → State
  -- in a CDATA section: what it stands for so far, without the brackets that it ends in, and whether that ends in CR
  in_section : ℕ → Element → List Element → List ℕ → Brackets → Bool → State
  -- in the name of a tag, whose `<` has this offset. So many levels are left within the tag's element, which the others are around
  in_name : ℕ → List Element → ℕ → List ℕ → State
  -- in a tag behind its name or an attribute, and whether behind white space
  in_tag : ℕ → List Element → Element → Bool → State
  -- in the name of an attribute
  in_attribute : ℕ → List Element → Element → List ℕ → State
  -- behind the name of an attribute, before and behind its `=`
  before_equals : ℕ → List Element → Element → List ℕ → State
  behind_equals : ℕ → List Element → Element → List ℕ → State
  -- in the value of an attribute of this name, in these quotes: what it stands for so far, and whether it ends in CR
  in_value : ℕ → List Element → Element → List ℕ → ℕ → List ℕ → Bool → State
  -- behind `&`
  at_reference : Holder → State
  -- in the name of an entity
  in_entity : Holder → List ℕ → State
  -- behind `&#`
  at_number : Holder → State
  -- in a number to this base: its value so far, and whether a digit was read
  in_number : Holder → ℕ → ℕ → Bool → State
  -- these bytes are due, and then it goes on so
  due : List ℕ → State → State
  -- behind the name of an end tag
  in_end : ℕ → Element → List Element → State
  -- in the declaration, behind a part of it or its beginning, and whether behind white space
  in_declaration : Stage → Bool → State
  -- behind the word of a part, before and behind its `=`
  before_part_equals : Part → State
  behind_part_equals : Part → State
  -- in a part's value, in these quotes
  in_part : Part → ℕ → List ℕ → State

-- where the element goes that is complete now: it is the root, or a kid of the innermost of those around it
abbrev pub behind_element : ℕ → List Element → Element → State
behind_element levels [] e = at_end e
behind_element levels (p ∷ ps) e = in_run levels (with_kid (children.Element e) p) ps [] no_bracket false

-- how it goes on behind a piece of content
abbrev pub behind_piece : Nesting → State
behind_piece before = outside false
behind_piece (within levels e outer) = in_run levels e outer [] no_bracket false
behind_piece (behind root) = at_end root

-- how it goes on behind a reference that stands for this text
abbrev pub behind_reference : Holder → List ℕ → State
behind_reference (of_content levels e outer) text = in_run levels (with_text text e) outer [] no_bracket false
behind_reference (of_value levels outer e name quote value) text = in_value levels outer e name quote (value ++ text) false

-- an element may begin in a nesting: the levels that are left within it, and the elements around it
abbrev pub room_at : Nesting → Option (ℕ × List Element)
room_at before = Some (255, [])
room_at (within (suc levels) e outer) = Some (levels, e ∷ outer)
room_at _ = None
