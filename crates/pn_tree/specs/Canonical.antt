-- The canonical text of a tree: one spelling of it, after XML 1.0, sections 2.4, 2.8 and 3.1.
use Rattle.std.specs.Prelude.{ℕ, ◌==◌, List, [], ◌∷◌, ◌++◌, codes, if◌then◌else◌}
use Rattle.std.specs.List.{flat_map}
use Rattle.pn_tree.specs.declared.element.Attr.{Attr}
use Rattle.pn_tree.specs.declared.element.Element.{Element}
use Rattle.pn_tree.specs.declared.element.Child.{Child}
use Rattle.pn_tree.specs.declared.element.Child.TheOpen as layer
use Rattle.pn_tree.specs.declared.element.Child.TheFolds.{fold-Element, fold-Child}

-- how a byte of a text is written: `&`, `<`, `>` and CR by a reference
abbrev pub text_escape : ℕ → List ℕ
text_escape b =
    if b == 38 then codes "&amp;" else (if b == 60 then codes "&lt;" else (if b == 62 then codes "&gt;" else (if b == 13 then codes "&#13;" else b ∷ [])))

-- how a byte of an attribute's value is written: also `"`, tab and LF by a reference
abbrev pub value_escape : ℕ → List ℕ
value_escape b =
    if b == 34 then codes "&quot;" else (if b == 9 then codes "&#9;" else (if b == 10 then codes "&#10;" else text_escape b))

abbrev pub escaped_text : List ℕ → List ℕ
escaped_text = flat_map text_escape

abbrev pub escaped_value : List ℕ → List ℕ
escaped_value = flat_map value_escape

-- a space, the name, `="`, the value, `"`
abbrev pub attr_text : Attr → List ℕ
attr_text a = codes " " ++ (a.name ++ (codes "=\"" ++ (escaped_value a.value ++ codes "\"")))

-- what follows the attributes: `/>` where there are no kids, else `>`, the kids and the end tag
abbrev pub content_text : List ℕ → List (List ℕ) → List ℕ
content_text name [] = codes "/>"
content_text name (k ∷ ks) = codes ">" ++ (flat_map (λ t. t) (k ∷ ks) ++ (codes "</" ++ (name ++ codes ">")))

-- one kid, with the text of an element in its place
abbrev pub child_step : layer.Child-F (List ℕ) (List ℕ) → List ℕ
child_step (layer.Element e) = e
child_step (layer.Text t) = escaped_text t

-- one element, with the texts of its kids in their places
abbrev pub element_step : layer.Element-F (List ℕ) (List ℕ) → List ℕ
element_step e = codes "<" ++ (e.name ++ (flat_map attr_text e.attrs ++ content_text e.name e.kids))

-- the text of an element
abbrev pub element_text : Element → List ℕ
element_text = fold-Element (List ℕ) (List ℕ) child_step element_step

-- the text of a kid
abbrev pub child_text : Child → List ℕ
child_text = fold-Child (List ℕ) (List ℕ) child_step element_step

-- the XML declaration and a line end
abbrev pub declaration : List ℕ
declaration = codes "<?xml version=\"1.0\" encoding=\"UTF-8\"?>\n"

-- the canonical text of a tree, by its root: the declaration, the root and a line end
abbrev pub canonical_text : Element → List ℕ
canonical_text e = declaration ++ (element_text e ++ codes "\n")
