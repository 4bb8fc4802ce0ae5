-- The parts of an element, by which it is said what it spells.
use Rattle.std.specs.Prelude.{ℕ, ℤ, pos, List, [], Bool, not, codes, Option, Some, None}
use Rattle.std.specs.List.{filter, filter_map, find, slice_get}
use Rattle.std.specs.Option.{option_map, unwrap_or}
use Rattle.std.specs.Str.{bytes_eq}
use Rattle.pn_shape.specs.Faults as faults
use Rattle.pn_shape.specs.Numbers.{number_in}
use Rattle.pn_tree.specs.Elements.{attr_value}
use Rattle.pn_tree.specs.declared.element.Element.{Element}
use Rattle.pn_tree.specs.declared.element.Child.{Child}
use Rattle.pn_tree.specs.declared.element.Child.TheOpen as layer
use Rattle.pn_tree.specs.declared.element.Child.TheViews.{out-Child}

abbrev pub element_in_layer : layer.Child-F Child Element → Option Element
element_in_layer (layer.Element e) = Some e
element_in_layer (layer.Text t) = None

-- the elements among kids, in order
abbrev pub elements_among : List Child → List Element
elements_among = filter_map (λ k. element_in_layer (out-Child k))

-- the elements in an element, in order
abbrev pub child_elements : Element → List Element
child_elements e = elements_among e.kids

-- the text that stands in an element itself, joined
abbrev pub own_text : Element → List ℕ
own_text e = faults.own_text e.kids

-- whether an element has this name
abbrev pub has_name : List ℕ → Element → Bool
has_name name e = bytes_eq e.name name

-- the elements of this name in an element, in order
abbrev pub children_named : List ℕ → Element → List Element
children_named name e = filter (has_name name) (child_elements e)

-- the first of them, where there is one
abbrev pub child_named : List ℕ → Element → Option Element
child_named name e = find (has_name name) (child_elements e)

-- the first element of another name in an element, where there is one
abbrev pub other_child : List ℕ → Element → Option Element
other_child name e = find (λ x. not (has_name name x)) (child_elements e)

-- the first element in an element, where there is one
abbrev pub first_child : Element → Option Element
first_child e = slice_get (child_elements e) 0

-- the value of the attribute of this name: empty where there is none
abbrev pub attribute_of : List ℕ → Element → List ℕ
attribute_of name e = unwrap_or (attr_value name e.attrs) []

-- the whole number in an attribute: 0 where there is none
abbrev pub number_at : List ℕ → Element → ℤ
number_at name e = unwrap_or (number_in (attribute_of name e)) (pos 0)

-- the numbers of the range in an element
abbrev pub start_in : Element → ℤ
start_in e = unwrap_or (option_map (number_at (codes "start")) (first_child e)) (pos 0)

abbrev pub end_in : Element → ℤ
end_in e = unwrap_or (option_map (number_at (codes "end")) (first_child e)) (pos 0)
