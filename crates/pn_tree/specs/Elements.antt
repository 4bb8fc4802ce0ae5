-- Which elements a tree may have: XML 1.0, sections 2.3, 2.4 and 3.1, in this project's profile.
use Rattle.std.specs.Prelude.{◌≡◌, ℕ, zero, suc, Bool, true, false, ◌&&◌, not, List, [], ◌∷◌, Option, Some, None, is_none, if◌then◌else◌}
use Rattle.std.specs.List.{list_all}
use Rattle.std.specs.Str.{bytes_eq}
use Rattle.pn_text.specs.Characters.{is_text, is_name}
use Rattle.pn_tree.specs.declared.element.Attr.{Attr}
use Rattle.pn_tree.specs.declared.element.Element.{Element}
use Rattle.pn_tree.specs.declared.element.Child.{Child}
use Rattle.pn_tree.specs.declared.element.Child.TheOpen as layer
use Rattle.pn_tree.specs.declared.element.Child.TheViews.{out-Child}

-- the value of the attribute of this name, where there is one
abbrev pub attr_value : List ℕ → List Attr → Option (List ℕ)
attr_value name [] = None
attr_value name (a ∷ more) = if bytes_eq a.name name then Some a.value else attr_value name more

-- names are names, values are texts, and no name is given twice
abbrev pub are_attrs : List Attr → Bool
are_attrs [] = true
are_attrs (a ∷ more) = is_name a.name && (is_text a.value && (is_none (attr_value a.name more) && are_attrs more))

abbrev pub is_text_layer : layer.Child-F Child Element → Bool
is_text_layer (layer.Element e) = false
is_text_layer (layer.Text t) = true

-- whether a kid is a text
abbrev pub is_text_kid : Child → Bool
is_text_kid k = is_text_layer (out-Child k)

abbrev pub begins_with_text : List Child → Bool
begins_with_text [] = false
begins_with_text (k ∷ ks) = is_text_kid k

-- no two texts are neighbours
abbrev pub are_apart : List Child → Bool
are_apart [] = true
are_apart (k ∷ ks) = not (is_text_kid k && begins_with_text ks) && are_apart ks

-- a text kid is not empty
abbrev pub is_kid_text : List ℕ → Bool
is_kid_text [] = false
is_kid_text (b ∷ bs) = is_text (b ∷ bs)

-- a kid is a text that is not empty, or an element of which the test holds
abbrev pub is_kid_layer : (Element → Bool) → layer.Child-F Child Element → Bool
is_kid_layer test (layer.Element e) = test e
is_kid_layer test (layer.Text t) = is_kid_text t

abbrev pub is_kid : (Element → Bool) → Child → Bool
is_kid test k = is_kid_layer test (out-Child k)

-- an element of at most so many levels, with names, attributes and kids as a tree may have them
unfoldable pub is_element : ℕ → Element → Bool
is_element zero e = false
is_element (suc levels) e =
    is_name e.name && (are_attrs e.attrs && (are_apart e.kids && list_all (is_kid (is_element levels)) e.kids))

-- what holds of the root of each tree
abbrev pub IsTree : Element → Type 0
IsTree e = is_element 256 e ≡ true
