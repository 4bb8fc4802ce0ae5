-- The element tree of a net: the one that spells it in canonical text (ISO/IEC 15909-2). Parts that are kept as they are keep their offsets, all other offsets are 0.
use Rattle.std.specs.Prelude.{ℕ, List, [], ◌∷◌, ◌++◌, map, codes, decimal, Option, None, Some}
use Rattle.pn_shape.specs.Numbers.{address_of, namespace}
use Rattle.pn_tree.specs.declared.element.Attr.{Attr}
use Rattle.pn_tree.specs.declared.element.Element.{Element}
use Rattle.pn_tree.specs.declared.element.Child.{Child}
use Rattle.pn_tree.specs.declared.element.Child.TheVariants as children
use Rattle.pn_syntax.specs.declared.declaration.Declaration.{Declaration}
use Rattle.pn_objects.specs.declared.label.Head.{Head}
use Rattle.pn_objects.specs.declared.label.Label.{Label}
use Rattle.pn_objects.specs.declared.net.Net.{Net}
use Rattle.pn_objects.specs.declared.net.Page.{Page}
use Rattle.pn_objects.specs.declared.net.Page.TheOpen as layer
use Rattle.pn_objects.specs.declared.net.Page.TheFolds.{fold-Page}
use Rattle.pn_objects.specs.declared.net.Prefix.{Prefix}
use Rattle.pn_objects.specs.declared.object.Arc.{Arc}
use Rattle.pn_objects.specs.declared.object.Place.{Place}
use Rattle.pn_objects.specs.declared.object.Reference.{Reference}
use Rattle.pn_objects.specs.declared.object.Transition.{Transition}
use Rattle.pn_spelling.specs.Writing.{attribute, made, enclosing, all_kids, text_element}
use Rattle.pn_spelling.specs.WriteSorts.{sort_element}
use Rattle.pn_spelling.specs.WriteTerms.{term_element}
use Rattle.pn_spelling.specs.WriteDeclarations.{declarations_element}

-- what may be there, as kids: none where it isn't
abbrev pub kids_of : {A : Type 0} → (A → Element) → Option A → List Child
kids_of spell None = []
kids_of spell (Some a) = children.Element (spell a) ∷ []

-- a label that has an element: its text where it has one, the element in a `structure`, and its parts that are kept as they are
abbrev pub label_element : {T : Type 0} → List ℕ → (T → Element) → Label T → Element
label_element name spell l = made name [] (kids_of text_element l.text ++ (children.Element (enclosing (codes "structure") (spell l.value)) ∷ map children.Element l.opaque))

-- a label that says a number
abbrev pub number_label : List ℕ → Label ℕ → Element
number_label name l = made name [] (children.Element (text_element (decimal l.value)) ∷ map children.Element l.opaque)

-- the label `name`
abbrev pub name_element : Label (Unit {0}) → Element
name_element l = made (codes "name") [] (kids_of text_element l.text ++ map children.Element l.opaque)

-- what any part may have whatever it is
abbrev pub head_kids : Head → List Child
head_kids h = kids_of name_element h.name ++ map children.Element h.opaque

abbrev pub id_attr : List ℕ → Attr
id_attr id = attribute (codes "id") id

abbrev pub place_element : Place → Element
place_element p = made (codes "place") (id_attr p.id ∷ []) (head_kids p.head
    ++ (kids_of (number_label (codes "initialMarking")) p.marking
    ++ (kids_of (label_element (codes "type") sort_element) p.sort
    ++ kids_of (label_element (codes "hlinitialMarking") term_element) p.hl_marking)))

abbrev pub transition_element : Transition → Element
transition_element t = made (codes "transition") (id_attr t.id ∷ []) (head_kids t.head ++ kids_of (label_element (codes "condition") term_element) t.condition)

abbrev pub arc_element : Arc → Element
arc_element a = made (codes "arc") (id_attr a.id ∷ attribute (codes "source") a.source ∷ attribute (codes "target") a.target ∷ []) (head_kids a.head
    ++ (kids_of (number_label (codes "inscription")) a.weight
    ++ kids_of (label_element (codes "hlinscription") term_element) a.inscription))

-- a `referencePlace` or a `referenceTransition`
abbrev pub reference_element : List ℕ → Reference → Element
reference_element name r = made name (id_attr r.id ∷ attribute (codes "ref") r.refers ∷ []) (head_kids r.head)

abbrev pub declaration_label : Label (List Declaration) → Element
declaration_label = label_element (codes "declaration") declarations_element

-- what stands on a page itself, its subpages left out
abbrev pub own_kids : {A : Type 0} → layer.Page-F A → List Child
own_kids p = head_kids p.head
    ++ (all_kids declaration_label p.declarations
    ++ (all_kids place_element p.places
    ++ (all_kids transition_element p.transitions
    ++ (all_kids (reference_element (codes "referencePlace")) p.place_refs
    ++ (all_kids (reference_element (codes "referenceTransition")) p.transition_refs
    ++ all_kids arc_element p.arcs)))))

-- one page, whose subpages are given as elements
abbrev pub page_step : layer.Page-F Element → Element
page_step p = made (codes "page") (id_attr p.id ∷ []) (own_kids p ++ map children.Element p.pages)

abbrev pub page_element : Page → Element
page_element = fold-Page Element page_step

abbrev pub net_element : Net → Element
net_element n = made (codes "net") (id_attr n.id ∷ attribute (codes "type") (address_of n.kind) ∷ []) (head_kids n.head
    ++ (all_kids declaration_label n.declarations
    ++ all_kids page_element n.pages))

abbrev pub prefix_attr : Prefix → Attr
prefix_attr p = attribute p.name p.address

-- the attributes of the root
abbrev pub root_attrs : List Prefix → List Attr
root_attrs prefixes = attribute (codes "xmlns") namespace ∷ map prefix_attr prefixes

-- the root of a net's tree
abbrev pub tree_of_net : Net → Element
tree_of_net n = made (codes "pnml") (root_attrs n.prefixes) (children.Element (net_element n) ∷ [])
