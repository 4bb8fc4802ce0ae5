-- The net that the tree of a document spells (ISO/IEC 15909-2, the core model and its net types). The words speak of every element, but mean something of those alone that a document may have as a net or a part of one.
use Rattle.std.specs.Prelude.{ℕ, zero, suc, List, [], Bool, ◌||◌, map, codes, Option, None}
use Rattle.std.specs.List.{filter}
use Rattle.std.specs.Option.{option_map, unwrap_or}
use Rattle.pn_markup.specs.Bytes.{begins_with}
use Rattle.pn_operators.specs.declared.kind.Kind.{Kind}
use Rattle.pn_operators.specs.declared.kind.Kind.TheVariants as kinds
use Rattle.pn_syntax.specs.declared.declaration.Declaration.{Declaration}
use Rattle.pn_syntax.specs.declared.sort_expr.SortExpr.{SortExpr}
use Rattle.pn_syntax.specs.declared.term.Term.{Term}
use Rattle.pn_tree.specs.Depth.{depth_of}
use Rattle.pn_tree.specs.declared.element.Attr.{Attr}
use Rattle.pn_tree.specs.declared.element.Element.{Element}
use Rattle.pn_objects.specs.declared.label.Head.{Head}
use Rattle.pn_objects.specs.declared.label.Label.{Label}
use Rattle.pn_objects.specs.declared.net.Net.{Net}
use Rattle.pn_objects.specs.declared.net.Page.{Page}
use Rattle.pn_objects.specs.declared.net.Page.TheViews.{roll-Page}
use Rattle.pn_objects.specs.declared.net.Prefix.{Prefix}
use Rattle.pn_objects.specs.declared.object.Arc.{Arc}
use Rattle.pn_objects.specs.declared.object.Place.{Place}
use Rattle.pn_objects.specs.declared.object.Reference.{Reference}
use Rattle.pn_objects.specs.declared.object.Transition.{Transition}
use Rattle.pn_shape.specs.Numbers.{count_in, net_kind}
use Rattle.pn_spelling.specs.Parts.{attribute_of, child_elements, child_named, children_named, first_child, has_name, own_text}
use Rattle.pn_spelling.specs.ReadDeclarations.{declarations_read}
use Rattle.pn_spelling.specs.ReadSorts.{sort_read}
use Rattle.pn_spelling.specs.ReadTerms.{term_read}

-- the number that stands in an element
abbrev pub count_read : Element → ℕ
count_read e = unwrap_or (count_in (own_text e)) 0

-- whether an element is a part that is kept as it is
abbrev pub is_opaque_part : Element → Bool
is_opaque_part e = has_name (codes "graphics") e || has_name (codes "toolspecific") e

-- the parts of an element that are kept as they are, in order
abbrev pub opaque_parts : Element → List Element
opaque_parts e = filter is_opaque_part (child_elements e)

-- what stands in the `text` of a label, where it has one
abbrev pub text_read : Element → Option (List ℕ)
text_read e = option_map own_text (child_named (codes "text") e)

-- the first element of this name in an element, or the element itself where there is none
abbrev pub child_or_self : List ℕ → Element → Element
child_or_self name e = unwrap_or (child_named name e) e

-- the first element in an element, or the element itself where there is none
abbrev pub inner_or_self : Element → Element
inner_or_self e = unwrap_or (first_child e) e

-- the element in the `structure` of a label
abbrev pub structured : Element → Element
structured e = inner_or_self (child_or_self (codes "structure") e)

-- a label that says this
abbrev pub label_read : {T : Type 0} → T → Element → Label T
label_read value e = record { value = value; text = text_read e; opaque = opaque_parts e; at = e.at }

-- a label that says the number in its `text`: the number stands for the text
abbrev pub count_label : Element → Label ℕ
count_label e = record { value = count_read (child_or_self (codes "text") e); text = None; opaque = opaque_parts e; at = e.at }

-- a label that says the sort in its `structure`
abbrev pub sort_label : Element → Label SortExpr
sort_label e = label_read (sort_read (structured e)) e

-- a label that says the term in its `structure`
abbrev pub term_label : Element → Label Term
term_label e = label_read (term_read (structured e)) e

-- a label that says the declarations in its `structure`
abbrev pub declarations_label : Element → Label (List Declaration)
declarations_label e = label_read (declarations_read (structured e)) e

-- what each object may have
abbrev pub head_read : Element → Head
head_read e = record { name = option_map (label_read tt) (child_named (codes "name") e); opaque = opaque_parts e }

abbrev pub place_read : Element → Place
place_read e = record {
  id = attribute_of (codes "id") e;
  head = head_read e;
  marking = option_map count_label (child_named (codes "initialMarking") e);
  sort = option_map sort_label (child_named (codes "type") e);
  hl_marking = option_map term_label (child_named (codes "hlinitialMarking") e);
  at = e.at;
}

abbrev pub transition_read : Element → Transition
transition_read e = record { id = attribute_of (codes "id") e; head = head_read e; condition = option_map term_label (child_named (codes "condition") e); at = e.at }

abbrev pub arc_read : Element → Arc
arc_read e = record {
  id = attribute_of (codes "id") e;
  head = head_read e;
  source = attribute_of (codes "source") e;
  target = attribute_of (codes "target") e;
  weight = option_map count_label (child_named (codes "inscription") e);
  inscription = option_map term_label (child_named (codes "hlinscription") e);
  at = e.at;
}

abbrev pub reference_read : Element → Reference
reference_read e = record { id = attribute_of (codes "id") e; head = head_read e; refers = attribute_of (codes "ref") e; at = e.at }

-- a page in which these pages stand; each kind of object is in document order
abbrev pub page_with : List Page → Element → Page
page_with pages e = roll-Page (record {
  id = attribute_of (codes "id") e;
  head = head_read e;
  declarations = map declarations_label (children_named (codes "declaration") e);
  places = map place_read (children_named (codes "place") e);
  transitions = map transition_read (children_named (codes "transition") e);
  place_refs = map reference_read (children_named (codes "referencePlace") e);
  transition_refs = map reference_read (children_named (codes "referenceTransition") e);
  arcs = map arc_read (children_named (codes "arc") e);
  pages = pages;
  at = e.at;
})

-- the page that an element of so many levels spells
unfoldable pub page_within : ℕ → Element → Page
page_within zero e = page_with [] e
page_within (suc levels) e = page_with (map (page_within levels) (children_named (codes "page") e)) e

-- the page that an element spells
abbrev pub page_read : Element → Page
page_read e = page_within (depth_of e) e

-- whether an attribute binds a prefix
abbrev pub is_prefix : Attr → Bool
is_prefix a = begins_with (codes "xmlns:") a.name

abbrev pub prefix_read : Attr → Prefix
prefix_read a = record { name = a.name; address = a.value }

-- the prefixes that an element binds, in order
abbrev pub prefixes_read : Element → List Prefix
prefixes_read e = map prefix_read (filter is_prefix e.attrs)

-- the kind of a net, by its type
abbrev pub kind_read : Element → Kind
kind_read e = unwrap_or (net_kind (attribute_of (codes "type") e)) kinds.PtNet

-- the net that a `net` element spells, where these prefixes are bound
abbrev pub net_read : List Prefix → Element → Net
net_read prefixes e = record {
  id = attribute_of (codes "id") e;
  kind = kind_read e;
  prefixes = prefixes;
  head = head_read e;
  declarations = map declarations_label (children_named (codes "declaration") e);
  pages = map page_read (children_named (codes "page") e);
  at = e.at;
}

-- the net that the root of a document's tree spells
abbrev pub net_of : Element → Net
net_of root = net_read (prefixes_read root) (child_or_self (codes "net") root)
