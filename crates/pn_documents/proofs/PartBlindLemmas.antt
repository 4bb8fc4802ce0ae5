-- The net that a tree without its offsets spells is the net that it spells, without offsets.
use Rattle.std.proofs.Common.{◌≡◌, ℕ, zero, suc, ◌+◌, Bool, cond, List, [], map, codes, Option, Some, None, refl, sym, ap, ◌∙◌, arith}
use Rattle.std.specs.Prelude.{not}
use Rattle.std.specs.List.{filter, find}
use Rattle.std.specs.Option.{option_map, unwrap_or}
use Rattle.pn_round_trip.proofs.PageLaws.{bare_page_is, bare_page_layer}
use Rattle.pn_markup.proofs.OffsetLemmas.{without_offsets_is}
use Rattle.pn_markup.specs.Offsets.{without_offsets}
use Rattle.pn_objects.specs.Offsets.{IsSameNet, arc_without_offsets, declarations_without_offsets, head_without_offsets, label_with, label_without_offsets, net_without_offsets, page_without_offsets, place_without_offsets, reference_without_offsets, transition_without_offsets}
use Rattle.pn_objects.specs.declared.label.Label.{Label}
use Rattle.pn_objects.specs.declared.net.Page.{Page}
use Rattle.pn_objects.specs.declared.net.Page.TheOpen as layer
use Rattle.pn_objects.specs.declared.net.Page.TheViews.{out-roll-Page, roll-Page}
use Rattle.pn_shape.specs.Numbers.{count_in}
use Rattle.pn_spelling.proofs.PageLemmas.{page_levels}
use Rattle.pn_spelling.specs.Parts.{attribute_of, child_elements, child_named, children_named, end_in, first_child, has_name, number_at, other_child, own_text, start_in}
use Rattle.pn_spelling.specs.ReadDeclarations.{base_in, body_in, body_of, constant_read, declaration_read, declarations_read, named_read, part_read, partition_read, value_read, variable_read}
use Rattle.pn_spelling.specs.ReadNets.{arc_read, child_or_self, count_label, count_read, declarations_label, head_read, inner_or_self, is_opaque_part, kind_read, label_read, net_of, net_read, opaque_parts, page_read, page_with, page_within, place_read, prefixes_read, reference_read, sort_label, structured, term_label, text_read, transition_read}
use Rattle.pn_spelling.specs.ReadSorts.{no_sort, sort_read}
use Rattle.pn_spelling.specs.ReadTerms.{term_read}
use Rattle.pn_syntax.specs.Offsets.{body_without_offsets, constant_without_offset, declaration_without_offsets, element_without_offsets, sort_without_offsets, value_without_offset}
use Rattle.pn_syntax.specs.TermOffsets.{term_without_offsets}
use Rattle.pn_syntax.specs.declared.declaration.ConstExpr.TheVariants as values
use Rattle.pn_syntax.specs.declared.declaration.Declaration.TheVariants as declarations
use Rattle.pn_syntax.specs.declared.declaration.SortBody.TheVariants as bodies
use Rattle.pn_tree.specs.Depth.{depth_of}
use Rattle.pn_tree.specs.Elements.{attr_value}
use Rattle.pn_tree.specs.declared.element.Element.{Element}
use Rattle.pn_documents.proofs.BlindLemmas.{attribute_bare, child_named_bare, children_bare, children_named_bare, cond_each, filter_bare, find_bare, first_child_bare, map_each, name_bare, option_each, or_else_each, own_text_bare}
use Rattle.pn_documents.proofs.ReadBlindLemmas.{end_bare, no_sort_bare, number_bare, sort_in_bare, sort_read_bare, start_bare, term_read_bare}

-- ---- declarations

constant_bare : (e : Element) → constant_read (without_offsets e) ≡ constant_without_offset (constant_read e)
constant_bare e = ap constant_read (without_offsets_is e)

constants_bare : (e : Element) → map constant_read (child_elements (without_offsets e)) ≡ map constant_without_offset (map constant_read (child_elements e))
constants_bare e = ap (map constant_read) (children_bare e) ∙ map_each constant_read without_offsets constant_without_offset constant_read constant_bare (child_elements e)

body_bare : (e : Element) → body_of (without_offsets e) ≡ body_without_offsets (body_of e)
body_bare e =
    let finite = bodies.Finite (map constant_read (child_elements e)) in
    let cyclic = bodies.Cyclic (map constant_read (child_elements e)) in
    let plain = bodies.Plain (sort_read e) in
    let rest = cond (has_name (codes "cyclicenumeration") e) cyclic plain in
    (λ i. cond (name_bare (codes "finiteenumeration") e i) (bodies.Finite (constants_bare e i)) (cond (name_bare (codes "cyclicenumeration") e i) (bodies.Cyclic (constants_bare e i)) (bodies.Plain (sort_read_bare e i))))
    ∙ cond_each body_without_offsets (has_name (codes "finiteenumeration") e) finite rest (body_without_offsets finite) (cond (has_name (codes "cyclicenumeration") e) (body_without_offsets cyclic) (body_without_offsets plain)) refl
    (cond_each body_without_offsets (has_name (codes "cyclicenumeration") e) cyclic plain (body_without_offsets cyclic) (body_without_offsets plain) refl refl)

body_in_bare : (e : Element) → body_in (without_offsets e) ≡ body_without_offsets (body_in e)
body_in_bare e =
    ap (λ o. unwrap_or (option_map body_of o) (bodies.Plain no_sort)) (first_child_bare e)
    ∙ or_else_each body_of without_offsets body_without_offsets body_of (bodies.Plain no_sort) (bodies.Plain no_sort) body_bare (ap bodies.Plain no_sort_bare) (first_child e)

value_bare : (e : Element) → value_read (without_offsets e) ≡ value_without_offset (value_read e)
value_bare e =
    let range = values.Range (number_at (codes "value") e) (start_in e) (end_in e) e.at in
    let named = values.Named (attribute_of (codes "declaration") e) e.at in
    (λ i. cond (name_bare (codes "finiteintrangeconstant") e i) (values.Range (number_bare (codes "value") e i) (start_bare e i) (end_bare e i) (without_offsets_is e i).at) (values.Named (attribute_bare (codes "declaration") e i) (without_offsets_is e i).at))
    ∙ cond_each value_without_offset (has_name (codes "finiteintrangeconstant") e) range named (value_without_offset range) (value_without_offset named) refl refl

part_bare : (e : Element) → part_read (without_offsets e) ≡ element_without_offsets (part_read e)
part_bare e =
    (λ i. record (part_read (without_offsets_is e i)) { values = map value_read (children_bare e i) })
    ∙ ap (λ vs. record (part_read e) { values = vs; at = 0 }) (map_each value_read without_offsets value_without_offset value_read value_bare (child_elements e))

base_bare : (e : Element) → base_in (without_offsets e) ≡ sort_without_offsets (base_in e)
base_bare e =
    let other : Element → Bool = λ x. not (has_name (codes "partitionelement") x) in
    ap (λ o. unwrap_or (option_map sort_read o) no_sort) (ap (find other) (children_bare e) ∙ find_bare other (λ x. ap not (name_bare (codes "partitionelement") x)) (child_elements e))
    ∙ or_else_each sort_read without_offsets sort_without_offsets sort_read no_sort no_sort sort_read_bare no_sort_bare (other_child (codes "partitionelement") e)

parts_named_bare : {A : Type 0} (name : List ℕ) (read : Element → A) (clear : A → A) → ((x : Element) → read (without_offsets x) ≡ clear (read x)) → (e : Element)
    → map read (children_named name (without_offsets e)) ≡ map clear (map read (children_named name e))
parts_named_bare name read clear same e = ap (map read) (children_named_bare name e) ∙ map_each read without_offsets clear read same (children_named name e)

declaration_bare : (e : Element) → declaration_read (without_offsets e) ≡ declaration_without_offsets (declaration_read e)
declaration_bare e =
    let rest = cond (has_name (codes "partition") e) (partition_read e) (named_read e) in
    (λ i. cond (name_bare (codes "variabledecl") e i) (variable i) (cond (name_bare (codes "partition") e i) (partition i) (named i)))
    ∙ cond_each declaration_without_offsets (has_name (codes "variabledecl") e) (variable_read e) rest (declaration_without_offsets (variable_read e))
    (cond (has_name (codes "partition") e) (declaration_without_offsets (partition_read e)) (declaration_without_offsets (named_read e))) refl
    (cond_each declaration_without_offsets (has_name (codes "partition") e) (partition_read e) (named_read e) (declaration_without_offsets (partition_read e)) (declaration_without_offsets (named_read e)) refl refl)
  where
    variable : variable_read (without_offsets e) ≡ declaration_without_offsets (variable_read e)
    variable = λ i. declarations.Variable (attribute_bare (codes "id") e i) (attr_value (codes "name") (without_offsets_is e i).attrs) (sort_in_bare e i) (without_offsets_is e i).at

    partition : partition_read (without_offsets e) ≡ declaration_without_offsets (partition_read e)
    partition =
        λ i. declarations.Partition (attribute_bare (codes "id") e i) (attr_value (codes "name") (without_offsets_is e i).attrs) (base_bare e i)
        (parts_named_bare (codes "partitionelement") part_read element_without_offsets part_bare e i) (without_offsets_is e i).at

    named : named_read (without_offsets e) ≡ declaration_without_offsets (named_read e)
    named = λ i. declarations.Named (attribute_bare (codes "id") e i) (attr_value (codes "name") (without_offsets_is e i).attrs) (body_in_bare e i) (without_offsets_is e i).at

declarations_bare : (e : Element) → declarations_read (without_offsets e) ≡ map declaration_without_offsets (declarations_read e)
declarations_bare e = ap (map declaration_read) (children_bare e) ∙ map_each declaration_read without_offsets declaration_without_offsets declaration_read declaration_bare (child_elements e)

-- ---- labels

opaque_test : (x : Element) → is_opaque_part (without_offsets x) ≡ is_opaque_part x
opaque_test x = ap is_opaque_part (without_offsets_is x)

opaque_bare : (e : Element) → opaque_parts (without_offsets e) ≡ map without_offsets (opaque_parts e)
opaque_bare e = ap (filter is_opaque_part) (children_bare e) ∙ filter_bare is_opaque_part opaque_test (child_elements e)

text_read_bare : (e : Element) → text_read (without_offsets e) ≡ text_read e
text_read_bare e = ap (option_map own_text) (child_named_bare (codes "text") e) ∙ option_each own_text without_offsets (λ t. t) own_text own_text_bare (child_named (codes "text") e) ∙ same (text_read e)
  where
    same : (o : Option (List ℕ)) → option_map (λ t. t) o ≡ o
    same None = refl
    same (Some t) = refl

-- a part of an element, or the element itself
self_bare : (o p : Option Element) (e : Element) → p ≡ option_map without_offsets o → unwrap_or p (without_offsets e) ≡ without_offsets (unwrap_or o e)
self_bare None p e is = ap (λ q. unwrap_or q (without_offsets e)) is
self_bare (Some x) p e is = ap (λ q. unwrap_or q (without_offsets e)) is

child_or_self_bare : (name : List ℕ) (e : Element) → child_or_self name (without_offsets e) ≡ without_offsets (child_or_self name e)
child_or_self_bare name e = self_bare (child_named name e) (child_named name (without_offsets e)) e (child_named_bare name e)

inner_bare : (e : Element) → inner_or_self (without_offsets e) ≡ without_offsets (inner_or_self e)
inner_bare e = self_bare (first_child e) (first_child (without_offsets e)) e (first_child_bare e)

structured_bare : (e : Element) → structured (without_offsets e) ≡ without_offsets (structured e)
structured_bare e = ap inner_or_self (child_or_self_bare (codes "structure") e) ∙ inner_bare (child_or_self (codes "structure") e)

at_bare : (e : Element) → (without_offsets e).at ≡ 0
at_bare e = ap (λ x. x.at) (without_offsets_is e)

-- a label in whose value offsets may stand
label_bare : {T : Type 0} (clear : T → T) (read : Element → T) → ((x : Element) → read (without_offsets x) ≡ clear (read x)) → (e : Element)
    → label_read (read (structured (without_offsets e))) (without_offsets e) ≡ label_with clear (label_read (read (structured e)) e)
label_bare clear read same e = λ i. record { value = (ap read (structured_bare e) ∙ same (structured e)) i; text = text_read_bare e i; opaque = opaque_bare e i; at = at_bare e i }

sort_label_bare : (e : Element) → sort_label (without_offsets e) ≡ label_with sort_without_offsets (sort_label e)
sort_label_bare = label_bare sort_without_offsets sort_read sort_read_bare

term_label_bare : (e : Element) → term_label (without_offsets e) ≡ label_with term_without_offsets (term_label e)
term_label_bare = label_bare term_without_offsets term_read term_read_bare

declarations_label_bare : (e : Element) → declarations_label (without_offsets e) ≡ declarations_without_offsets (declarations_label e)
declarations_label_bare = label_bare (map declaration_without_offsets) declarations_read declarations_bare

count_bare : (e : Element) → count_label (without_offsets e) ≡ label_without_offsets (count_label e)
count_bare e = λ i. record { value = (ap count_read (child_or_self_bare (codes "text") e) ∙ ap (λ t. unwrap_or (count_in t) 0) (own_text_bare (child_or_self (codes "text") e))) i; text = None; opaque = opaque_bare e i; at = at_bare e i }

-- a label that says nothing
abbrev name_read : Element → Label (Unit {0})
name_read e = label_read tt e

name_label_bare : (e : Element) → name_read (without_offsets e) ≡ label_without_offsets (name_read e)
name_label_bare e = λ i. record { value = tt; text = text_read_bare e i; opaque = opaque_bare e i; at = at_bare e i }

-- what an element of this name says, where there is one
may_have : {T : Type 0} (name : List ℕ) (read : Element → T) (clear : T → T) → ((x : Element) → read (without_offsets x) ≡ clear (read x)) → (e : Element)
    → option_map read (child_named name (without_offsets e)) ≡ option_map clear (option_map read (child_named name e))
may_have name read clear same e = ap (option_map read) (child_named_bare name e) ∙ option_each read without_offsets clear read same (child_named name e)

head_bare : (e : Element) → head_read (without_offsets e) ≡ head_without_offsets (head_read e)
head_bare e = λ i. record { name = may_have (codes "name") name_read label_without_offsets name_label_bare e i; opaque = opaque_bare e i }

-- ---- objects

place_bare : (e : Element) → place_read (without_offsets e) ≡ place_without_offsets (place_read e)
place_bare e = λ i. record {
  id = attribute_bare (codes "id") e i;
  head = head_bare e i;
  marking = may_have (codes "initialMarking") count_label label_without_offsets count_bare e i;
  sort = may_have (codes "type") sort_label (label_with sort_without_offsets) sort_label_bare e i;
  hl_marking = may_have (codes "hlinitialMarking") term_label (label_with term_without_offsets) term_label_bare e i;
  at = at_bare e i;
}

transition_bare : (e : Element) → transition_read (without_offsets e) ≡ transition_without_offsets (transition_read e)
transition_bare e = λ i. record {
  id = attribute_bare (codes "id") e i;
  head = head_bare e i;
  condition = may_have (codes "condition") term_label (label_with term_without_offsets) term_label_bare e i;
  at = at_bare e i;
}

arc_bare : (e : Element) → arc_read (without_offsets e) ≡ arc_without_offsets (arc_read e)
arc_bare e = λ i. record {
  id = attribute_bare (codes "id") e i;
  head = head_bare e i;
  source = attribute_bare (codes "source") e i;
  target = attribute_bare (codes "target") e i;
  weight = may_have (codes "inscription") count_label label_without_offsets count_bare e i;
  inscription = may_have (codes "hlinscription") term_label (label_with term_without_offsets) term_label_bare e i;
  at = at_bare e i;
}

reference_bare : (e : Element) → reference_read (without_offsets e) ≡ reference_without_offsets (reference_read e)
reference_bare e = λ i. record { id = attribute_bare (codes "id") e i; head = head_bare e i; refers = attribute_bare (codes "ref") e i; at = at_bare e i }

-- ---- pages

-- a page in which these pages stand, as it is read
abbrev page_layer : List Page → Element → layer.Page-F Page
page_layer pages e = record {
  id = attribute_of (codes "id") e;
  head = head_read e;
  declarations = map declarations_label (children_named (codes "declaration") e);
  places = map place_read (children_named (codes "place") e);
  transitions = map transition_read (children_named (codes "transition") e);
  place_refs = map reference_read (children_named (codes "referencePlace") e);
  transition_refs = map reference_read (children_named (codes "referenceTransition") e);
  arcs = map arc_read (children_named (codes "arc") e);
  pages = pages;
  at = e.at;
}

-- a page, with its subpages without offsets
page_with_bare : (pages : List Page) (e : Element) → page_with (map page_without_offsets pages) (without_offsets e) ≡ page_without_offsets (page_with pages e)
page_with_bare pages e =
    (λ i. roll-Page (record {
      id = attribute_bare (codes "id") e i;
      head = head_bare e i;
      declarations = parts_named_bare (codes "declaration") declarations_label declarations_without_offsets declarations_label_bare e i;
      places = parts_named_bare (codes "place") place_read place_without_offsets place_bare e i;
      transitions = parts_named_bare (codes "transition") transition_read transition_without_offsets transition_bare e i;
      place_refs = parts_named_bare (codes "referencePlace") reference_read reference_without_offsets reference_bare e i;
      transition_refs = parts_named_bare (codes "referenceTransition") reference_read reference_without_offsets reference_bare e i;
      arcs = parts_named_bare (codes "arc") arc_read arc_without_offsets arc_bare e i;
      pages = map page_without_offsets pages;
      at = at_bare e i;
    }))
    ∙ sym (bare_page_is (page_with pages e) ∙ ap (λ l. roll-Page (bare_page_layer l)) (out-roll-Page (page_layer pages e)))

within_page : (n : ℕ) (e : Element) → page_within n (without_offsets e) ≡ page_without_offsets (page_within n e)
unfolding page_within
within_page zero e = page_with_bare [] e
within_page (suc n) e = ap (λ pages. page_with pages (without_offsets e)) (parts_named_bare (codes "page") (page_within n) page_without_offsets (within_page n) e) ∙ page_with_bare (map (page_within n) (children_named (codes "page") e)) e

page_bare : (e : Element) → page_read (without_offsets e) ≡ page_without_offsets (page_read e)
page_bare e =
    let n = depth_of e + depth_of (without_offsets e) in
    page_levels (depth_of (without_offsets e)) n (without_offsets e) (omega arith) (omega arith) ∙ within_page n e ∙ ap page_without_offsets (page_levels n (depth_of e) e (omega arith) (omega arith))

-- ---- nets

pub net_bare : (e : Element) → net_of (without_offsets e) ≡ net_without_offsets (net_of e)
net_bare e =
    let net = child_or_self (codes "net") e in
    (λ i. net_read (prefixes_read (without_offsets_is e i)) (child_or_self_bare (codes "net") e i))
    ∙ (λ i. record {
      id = attribute_bare (codes "id") net i;
      kind = ap kind_read (without_offsets_is net) i;
      prefixes = prefixes_read e;
      head = head_bare net i;
      declarations = parts_named_bare (codes "declaration") declarations_label declarations_without_offsets declarations_label_bare net i;
      pages = parts_named_bare (codes "page") page_read page_without_offsets page_bare net i;
      at = at_bare net i;
    })

-- trees that are equal but for offsets spell the same net
pub same_net : (e f : Element) → without_offsets e ≡ without_offsets f → IsSameNet (net_of e) (net_of f)
same_net e f alike = sym (net_bare e) ∙ ap net_of alike ∙ net_bare f
