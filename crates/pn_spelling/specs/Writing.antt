-- Elements that stand nowhere in a document yet: their offset is 0.
use Rattle.std.specs.Prelude.{ℕ, List, [], ◌∷◌, map, codes}
use Rattle.pn_tree.specs.declared.element.Attr.{Attr}
use Rattle.pn_tree.specs.declared.element.Element.{Element}
use Rattle.pn_tree.specs.declared.element.Child.{Child}
use Rattle.pn_tree.specs.declared.element.Child.TheVariants as children

abbrev pub attribute : List ℕ → List ℕ → Attr
attribute name value = record { name = name; value = value }

-- an element with these attributes and kids
abbrev pub made : List ℕ → List Attr → List Child → Element
made name attrs kids = record { name = name; at = 0; attrs = attrs; kids = kids }

-- an element with one attribute, and nothing in it
abbrev pub attributed : List ℕ → List ℕ → List ℕ → Element
attributed name key value = made name (attribute key value ∷ []) []

-- an element that has one element in it, and no attributes
abbrev pub enclosing : List ℕ → Element → Element
enclosing name e = made name [] (children.Element e ∷ [])

-- the elements of the items of a list, in order
abbrev pub all_kids : {A : Type 0} → (A → Element) → List A → List Child
all_kids spell items = map children.Element (map spell items)

-- a text as kids: an empty one is none
abbrev pub text_kids : List ℕ → List Child
text_kids [] = []
text_kids (b ∷ bs) = children.Text (b ∷ bs) ∷ []

-- the element `text`
abbrev pub text_element : List ℕ → Element
text_element t = made (codes "text") [] (text_kids t)
