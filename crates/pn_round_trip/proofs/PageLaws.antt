-- Pages that, offsets aside, elements without a fault of shape spell: they are written without one, and read back.
use Rattle.std.proofs.Common.{◌≡◌, ℕ, zero, suc, ◌<◌, ◌≤◌, true, List, [], ◌∷◌, ◌++◌, append_assoc, append-nil, map, codes, Some, None, refl, sym, ap, subst, ◌∙◌, arith}
use Rattle.std.specs.Prelude.{option_to_list}
use Rattle.std.specs.List.{AllByRecursion}
use Rattle.pn_operators.specs.declared.kind.Kind.{Kind}
use Rattle.pn_operators.specs.declared.kind.Kind.TheVariants as kind
use Rattle.pn_syntax.specs.Offsets.{declaration_without_offsets, sort_without_offsets}
use Rattle.pn_syntax.specs.TermOffsets.{term_without_offsets}
use Rattle.pn_syntax.specs.declared.declaration.Declaration.{Declaration}
use Rattle.pn_objects.specs.declared.net.Page.{Page}
use Rattle.pn_objects.specs.declared.net.Page.TheOpen as layer
use Rattle.pn_objects.specs.declared.net.Page.TheViews.{roll-Page, out-Page, out-roll-Page}
use Rattle.pn_objects.specs.declared.net.Page.TheFolds.{fold_out-Page}
use Rattle.pn_objects.specs.Offsets.{arc_without_offsets, declarations_without_offsets, head_without_offsets, page_at_zero, page_without_offsets, place_without_offsets, reference_without_offsets, transition_without_offsets}
use Rattle.pn_tree.specs.Depth.{depth_of}
use Rattle.pn_tree.specs.declared.element.Element.{Element}
use Rattle.pn_tree.proofs.DepthLemmas.{some_levels}
use Rattle.pn_shape.specs.Attributes.{attr_fault, lack_fault}
use Rattle.pn_shape.specs.Faults.{fill_faults, IsShaped}
use Rattle.pn_shape.specs.Rules.{rule_for, is_had, slot_of}
use Rattle.pn_shape.specs.Shaped.{HasShape}
use Rattle.pn_shape.specs.Spots.{has_slot, spot_at, spot_in, tag_of}
use Rattle.pn_shape.specs.declared.rule.Content.TheVariants as contents
use Rattle.pn_shape.specs.declared.rule.Fill.TheVariants as fill
use Rattle.pn_shape.specs.declared.tag.Tag.{Tag}
use Rattle.pn_shape.specs.declared.tag.Tag.TheVariants as tag
use Rattle.pn_shape.proofs.PlaceLemmas.{fill_of, of_fill, one_is}
use Rattle.pn_shape.proofs.WrittenLemmas.{as_kids}
use Rattle.pn_spelling.specs.Parts.{attribute_of, child_elements, children_named, has_name}
use Rattle.pn_spelling.specs.ReadDeclarations.{declarations_read}
use Rattle.pn_spelling.specs.ReadNets.{arc_read, declarations_label, head_read, page_read, place_read, reference_read, transition_read}
use Rattle.pn_spelling.specs.ReadSorts.{sort_read}
use Rattle.pn_spelling.specs.ReadTerms.{term_read}
use Rattle.pn_spelling.specs.WriteDeclarations.{declarations_element}
use Rattle.pn_spelling.specs.WriteNets.{arc_element, declaration_label, head_kids, id_attr, name_element, own_kids, page_element, place_element, reference_element, transition_element}
use Rattle.pn_spelling.specs.WriteSorts.{sort_element}
use Rattle.pn_spelling.specs.WriteTerms.{term_element}
use Rattle.pn_spelling.specs.Writing.{all_kids, made}
use Rattle.pn_spelling.proofs.PageLemmas.{page_read_is}
use Rattle.pn_spelling.proofs.WriteLemmas.{page_made}
use Rattle.pn_round_trip.proofs.DeclarationLemmas.{declarations_same_again, declarations_shaped_again}
use Rattle.pn_facts.proofs.Each.{filtered, each}
use Rattle.pn_round_trip.proofs.KidLemmas.{elements_shape, shaped_elements, shallower}
use Rattle.pn_round_trip.proofs.SortLemmas.{sort_same_again, sort_shaped_again}
use Rattle.pn_round_trip.proofs.TermLemmas.{term_same_again, term_shaped_again}
use Rattle.pn_round_trip.proofs.GroupNetLaws.{Group, AreCalled, fit_shape, members_of}
use Rattle.pn_round_trip.proofs.LabelLaws.{Anything, FillLaw, LabelRow, label_law, opaque_slot, some_same}
use Rattle.pn_round_trip.proofs.ObjectNetLaws.{HeadRow, arc_law, head_back, head_called, head_fits, head_kids_are, id_rule, id_there, joined_kids, list_field, name_group, name_slot, none_same, opaque_group, place_law, place_reference_law, transition_law, transition_reference_law, head_such, id_fits}
use Rattle.pn_round_trip.proofs.PartNetLaws.{PartLaw, NamedPlace, every_one, group_is, written_kept, written_named, list_such}
use Rattle.pn_round_trip.specs.Spellable.{AreSpelledDeclarations, IsHadWith, IsSpellableArc, IsSpellableLabel, IsSpellablePage, IsSpellablePlace, IsSpellableReference, IsSpellableTransition, IsSpelledSort, IsSpelledTerm}

-- sorts, terms and declarations

pub sort_fill : (k : Kind) → FillLaw k fill.Sort (IsSpelledSort k) sort_read sort_element sort_without_offsets
sort_fill k = record {
  such = λ e sort is alike. (e, is, alike);
  shaped = λ sort such. sort_shaped_again k such.0 sort such.1 such.2;
  same = λ sort such. sort_same_again k such.0 sort such.1 such.2;
}

pub term_fill : (k : Kind) → FillLaw k fill.Term (IsSpelledTerm k) term_read term_element term_without_offsets
term_fill k = record {
  such = λ e term is alike. (e, is, alike);
  shaped = λ term such. term_shaped_again k such.0 term such.1 such.2;
  same = λ term such. term_same_again k such.0 term such.1 such.2;
}

are_declarations : (k : Kind) (e : Element) → fill_faults k (fill.One tag.Declarations) e ≡ [] → IsShaped k tag.Declarations e
are_declarations k e is =
    let tagged = fill_of k (fill.One tag.Declarations) e is in
    subst (λ t. IsShaped k t e) (one_is k e.name tag.Declarations tagged.0 tagged.1) tagged.2

declarations_named : (k : Kind) (ds : List Declaration) → tag_of k (declarations_element ds).name (fill.One tag.Declarations) ≡ Some tag.Declarations
unfolding rule_for tag_of
declarations_named k ds = refl

declarations_fill : (k : Kind) → is_had k tag.Declaration ≡ true → FillLaw k (fill.One tag.Declarations) (AreSpelledDeclarations k) declarations_read declarations_element (map declaration_without_offsets)
declarations_fill k had = record {
  such = λ e ds is alike. (e, are_declarations k e is, alike);
  shaped = λ ds such. of_fill k (fill.One tag.Declarations) (declarations_element ds) tag.Declarations (declarations_named k ds) (declarations_shaped_again k such.0 ds had such.1 such.2);
  same = λ ds such. declarations_same_again k such.0 ds had such.1 such.2;
}

declaration_row : (k : Kind) → LabelRow k tag.Declaration tag.DeclarationStructure (fill.One tag.Declarations)
unfolding rule_for spot_in tag_of has_slot
declaration_row k = record {
  content = refl;
  slots = refl;
  attrs = refl;
  text = record { at = refl; here = refl; fills = refl; row = refl; spot = λ s h. some_same (spot_at 0 tag.Text) s h; there = λ had. refl };
  structure = record { at = refl; here = refl; fills = refl; row = refl; spot = λ s h. some_same (spot_at 1 tag.DeclarationStructure) s h; there = λ had. refl };
  kept = record { most = refl; least = refl; graphics = refl; toolspecific = refl };
  inner_content = refl;
  inner_slots = refl;
  inner_attrs = refl;
  has_structure = refl;
  has_inner = refl;
  had = refl;
}

pub declaration_law : (k : Kind) → is_had k tag.Declaration ≡ true
    → PartLaw k tag.Declaration Anything (IsSpellableLabel (AreSpelledDeclarations k)) declarations_label declaration_label declarations_without_offsets
declaration_law k had =
    label_law k tag.Declaration tag.DeclarationStructure (fill.One tag.Declarations) (codes "declaration") (AreSpelledDeclarations k) declarations_read declarations_element (map declaration_without_offsets)
    (declaration_row k) (declarations_fill k had)

-- one layer of a page

abbrev pub PageLayer : Type 0
PageLayer = layer.Page-F Page

-- without offsets
abbrev pub bare_page_layer : PageLayer → PageLayer
bare_page_layer l = record {
  id = l.id;
  head = head_without_offsets l.head;
  declarations = map declarations_without_offsets l.declarations;
  places = map place_without_offsets l.places;
  transitions = map transition_without_offsets l.transitions;
  place_refs = map reference_without_offsets l.place_refs;
  transition_refs = map reference_without_offsets l.transition_refs;
  arcs = map arc_without_offsets l.arcs;
  pages = map page_without_offsets l.pages;
  at = 0;
}

pub bare_page_is : (p : Page) → page_without_offsets p ≡ roll-Page (bare_page_layer (out-Page p))
bare_page_is p = fold_out-Page Page page_at_zero p ∙ refl

-- as it is read
abbrev read_page_layer : Element → PageLayer
read_page_layer e = record {
  id = attribute_of (codes "id") e;
  head = head_read e;
  declarations = map declarations_label (children_named (codes "declaration") e);
  places = map place_read (children_named (codes "place") e);
  transitions = map transition_read (children_named (codes "transition") e);
  place_refs = map reference_read (children_named (codes "referencePlace") e);
  transition_refs = map reference_read (children_named (codes "referenceTransition") e);
  arcs = map arc_read (children_named (codes "arc") e);
  pages = map page_read (children_named (codes "page") e);
  at = e.at;
}

bare_read_is : (e : Element) → page_without_offsets (page_read e) ≡ roll-Page (bare_page_layer (read_page_layer e))
bare_read_is e = bare_page_is (page_read e) ∙ ap (λ q. roll-Page (bare_page_layer (out-Page q))) (page_read_is e) ∙ ap (λ l. roll-Page (bare_page_layer l)) (out-roll-Page (read_page_layer e))

layers_alike : (p : Page) (e : Element) → page_without_offsets p ≡ page_without_offsets (page_read e) → bare_page_layer (out-Page p) ≡ bare_page_layer (read_page_layer e)
layers_alike p e alike =
    sym (out-roll-Page (bare_page_layer (out-Page p))) ∙ ap out-Page (sym (bare_page_is p) ∙ alike ∙ bare_read_is e) ∙ out-roll-Page (bare_page_layer (read_page_layer e))

-- the places of a page

page_row : ((rule_for tag.Page).content ≡ contents.Elements) × ((rule_for tag.Page).slots ≡ name_slot ∷ opaque_slot ∷ slot_of tag.Declaration 0 None ∷ slot_of tag.Place 0 None ∷ slot_of tag.Transition 0 None ∷ slot_of tag.ReferencePlace 0 None ∷ slot_of tag.ReferenceTransition 0 None ∷ slot_of tag.Arc 0 None ∷ slot_of tag.Page 0 None ∷ []) × ((rule_for tag.Page).attrs ≡ id_rule ∷ [])
unfolding rule_for
page_row = (refl, refl, refl)

page_head : (k : Kind) → HeadRow k (rule_for tag.Page)
unfolding rule_for spot_in tag_of
page_head k = record {
  name = record { at = refl; here = refl; fills = refl; row = refl; spot = λ s h. some_same (spot_at 0 tag.Name) s h; there = λ had. refl };
  kept = record { most = refl; least = refl; graphics = refl; toolspecific = refl };
}

page_declaration : (k : Kind) → NamedPlace k (rule_for tag.Page) 2 (codes "declaration") tag.Declaration (slot_of tag.Declaration 0 None)
unfolding rule_for spot_in tag_of
page_declaration kind.PtNet = record { at = refl; here = refl; fills = refl; row = refl; spot = λ s h. none_same (spot_at 2 tag.Declaration) s h; there = λ had. absurd cc }
page_declaration kind.Symmetric = record { at = refl; here = refl; fills = refl; row = refl; spot = λ s h. some_same (spot_at 2 tag.Declaration) s h; there = λ had. refl }
page_declaration kind.HighLevel = record { at = refl; here = refl; fills = refl; row = refl; spot = λ s h. some_same (spot_at 2 tag.Declaration) s h; there = λ had. refl }

page_place : (k : Kind) → NamedPlace k (rule_for tag.Page) 3 (codes "place") tag.Place (slot_of tag.Place 0 None)
unfolding rule_for spot_in tag_of
page_place k = record { at = refl; here = refl; fills = refl; row = refl; spot = λ s h. some_same (spot_at 3 tag.Place) s h; there = λ had. refl }

page_transition : (k : Kind) → NamedPlace k (rule_for tag.Page) 4 (codes "transition") tag.Transition (slot_of tag.Transition 0 None)
unfolding rule_for spot_in tag_of
page_transition k = record { at = refl; here = refl; fills = refl; row = refl; spot = λ s h. some_same (spot_at 4 tag.Transition) s h; there = λ had. refl }

page_place_reference : (k : Kind) → NamedPlace k (rule_for tag.Page) 5 (codes "referencePlace") tag.ReferencePlace (slot_of tag.ReferencePlace 0 None)
unfolding rule_for spot_in tag_of
page_place_reference k = record { at = refl; here = refl; fills = refl; row = refl; spot = λ s h. some_same (spot_at 5 tag.ReferencePlace) s h; there = λ had. refl }

page_transition_reference : (k : Kind) → NamedPlace k (rule_for tag.Page) 6 (codes "referenceTransition") tag.ReferenceTransition (slot_of tag.ReferenceTransition 0 None)
unfolding rule_for spot_in tag_of
page_transition_reference k = record { at = refl; here = refl; fills = refl; row = refl; spot = λ s h. some_same (spot_at 6 tag.ReferenceTransition) s h; there = λ had. refl }

page_arc : (k : Kind) → NamedPlace k (rule_for tag.Page) 7 (codes "arc") tag.Arc (slot_of tag.Arc 0 None)
unfolding rule_for spot_in tag_of
page_arc k = record { at = refl; here = refl; fills = refl; row = refl; spot = λ s h. some_same (spot_at 7 tag.Arc) s h; there = λ had. refl }

page_subpage : (k : Kind) → NamedPlace k (rule_for tag.Page) 8 (codes "page") tag.Page (slot_of tag.Page 0 None)
unfolding rule_for spot_in tag_of
page_subpage k = record { at = refl; here = refl; fills = refl; row = refl; spot = λ s h. some_same (spot_at 8 tag.Page) s h; there = λ had. refl }

abbrev page_groups : PageLayer → List Group
page_groups l =
    name_group l.head ∷ opaque_group l.head
    ∷ record { slot = slot_of tag.Declaration 0 None; called = Some (codes "declaration"); members = map declaration_label l.declarations }
    ∷ record { slot = slot_of tag.Place 0 None; called = Some (codes "place"); members = map place_element l.places }
    ∷ record { slot = slot_of tag.Transition 0 None; called = Some (codes "transition"); members = map transition_element l.transitions }
    ∷ record { slot = slot_of tag.ReferencePlace 0 None; called = Some (codes "referencePlace"); members = map (reference_element (codes "referencePlace")) l.place_refs }
    ∷ record { slot = slot_of tag.ReferenceTransition 0 None; called = Some (codes "referenceTransition"); members = map (reference_element (codes "referenceTransition")) l.transition_refs }
    ∷ record { slot = slot_of tag.Arc 0 None; called = Some (codes "arc"); members = map arc_element l.arcs }
    ∷ record { slot = slot_of tag.Page 0 None; called = Some (codes "page"); members = map page_element l.pages } ∷ []

abbrev page_of_layer : PageLayer → Element
page_of_layer l = made (codes "page") (id_attr l.id ∷ []) (own_kids l ++ all_kids page_element l.pages)

nested : (n o d p t r q a g : List Element) → ((n ++ o) ++ (d ++ (p ++ (t ++ (r ++ (q ++ a)))))) ++ g ≡ n ++ (o ++ (d ++ (p ++ (t ++ (r ++ (q ++ (a ++ (g ++ []))))))))
nested n o d p t r q a g = simp (append-nil, append_assoc)

page_kids : (l : PageLayer) → (page_of_layer l).kids ≡ as_kids (members_of (page_groups l))
page_kids l =
    let n = map name_element (option_to_list l.head.name) in
    let o = l.head.opaque in
    let d = map declaration_label l.declarations in
    let p = map place_element l.places in
    let t = map transition_element l.transitions in
    let r = map (reference_element (codes "referencePlace")) l.place_refs in
    let q = map (reference_element (codes "referenceTransition")) l.transition_refs in
    let a = map arc_element l.arcs in
    let g = map page_element l.pages in
    let qa = joined_kids (as_kids q) (as_kids a) q a refl refl in
    let rqa = joined_kids (as_kids r) (as_kids q ++ as_kids a) r (q ++ a) refl qa in
    let trqa = joined_kids (as_kids t) (as_kids r ++ (as_kids q ++ as_kids a)) t (r ++ (q ++ a)) refl rqa in
    let ptrqa = joined_kids (as_kids p) (as_kids t ++ (as_kids r ++ (as_kids q ++ as_kids a))) p (t ++ (r ++ (q ++ a))) refl trqa in
    let dptrqa = joined_kids (as_kids d) (as_kids p ++ (as_kids t ++ (as_kids r ++ (as_kids q ++ as_kids a)))) d (p ++ (t ++ (r ++ (q ++ a)))) refl ptrqa in
    let own = joined_kids (head_kids l.head) (as_kids d ++ (as_kids p ++ (as_kids t ++ (as_kids r ++ (as_kids q ++ as_kids a))))) (n ++ o) (d ++ (p ++ (t ++ (r ++ (q ++ a))))) (head_kids_are l.head) dptrqa in
    joined_kids (own_kids l) (as_kids g) ((n ++ o) ++ (d ++ (p ++ (t ++ (r ++ (q ++ a)))))) g own refl ∙ ap as_kids (nested n o d p t r q a g)

abbrev pub Shallow : ℕ → Element → Type 0
Shallow n e = depth_of e ≤ n

pub subpages_shallow : (n : ℕ) (e : Element) → depth_of e ≤ suc n → AllByRecursion (Shallow n) (children_named (codes "page") e)
subpages_shallow n e deep =
    let shallow = each (λ x. depth_of x < depth_of e) (Shallow n) (λ x less. omega arith) (child_elements e) (shallower e) in
    filtered (Shallow n) (Shallow n) (has_name (codes "page")) (λ x h named. h) (child_elements e) shallow

-- nets of each kind have all but declarations

objects_had : (k : Kind) → (is_had k tag.Place ≡ true) × (is_had k tag.Transition ≡ true) × (is_had k tag.ReferencePlace ≡ true) × (is_had k tag.ReferenceTransition ≡ true) × (is_had k tag.Arc ≡ true)
unfolding rule_for
objects_had k = (refl, refl, refl, refl, refl)

pub pages_had : (k : Kind) → is_had k tag.Page ≡ true
unfolding rule_for
pages_had k = refl

pub with_had : {A : Type 0} (k : Kind) (t : Tag) (P : A → Type 0) → is_had k t ≡ true → (xs : List A) → AllByRecursion P xs → AllByRecursion (IsHadWith k t P) xs
with_had k t P had xs all = each P (IsHadWith k t P) (λ x h. (had, h)) xs all

pub without_had : {A : Type 0} (k : Kind) (t : Tag) (P : A → Type 0) (xs : List A) → AllByRecursion (IsHadWith k t P) xs → AllByRecursion P xs
without_had k t P xs all = each (IsHadWith k t P) P (λ x h. h.1) xs all

module _ (k : Kind) where
  abbrev PagesReturn : ℕ → Type 0
  PagesReturn n = PartLaw k tag.Page (Shallow n) (IsSpellablePage k n) page_read page_element page_without_offsets

  page_such : (n : ℕ) → PagesReturn n → (e : Element) (page : Page) → depth_of e ≤ suc n → IsShaped k tag.Page e → page_without_offsets page ≡ page_without_offsets (page_read e) → IsSpellablePage k (suc n) page
  page_such n below e page deep is alike =
      let l = out-Page page in
      let shape = elements_shape k tag.Page e page_row.0 is in
      let says = rule_for tag.Page in
      let same = layers_alike page e alike in
      let declarations = list_such k says 2 (codes "declaration") tag.Declaration (slot_of tag.Declaration 0 None) (page_declaration k) Anything (IsSpellableLabel (AreSpelledDeclarations k)) declarations_label declaration_label declarations_without_offsets (λ x. refl) (declaration_law k) e l.declarations shape
      (every_one (children_named (codes "declaration") e)) (ap (λ (x : PageLayer). x.declarations) same) in
      let places = list_such k says 3 (codes "place") tag.Place (slot_of tag.Place 0 None) (page_place k) Anything (IsSpellablePlace k) place_read place_element place_without_offsets (λ x. refl) (λ had. place_law k (sort_fill k) (term_fill k)) e l.places shape
      (every_one (children_named (codes "place") e)) (ap (λ (x : PageLayer). x.places) same) in
      let transitions = list_such k says 4 (codes "transition") tag.Transition (slot_of tag.Transition 0 None) (page_transition k) Anything (IsSpellableTransition k) transition_read transition_element transition_without_offsets (λ x. refl) (λ had. transition_law k (term_fill k)) e l.transitions shape
      (every_one (children_named (codes "transition") e)) (ap (λ (x : PageLayer). x.transitions) same) in
      let place_refs = list_such k says 5 (codes "referencePlace") tag.ReferencePlace (slot_of tag.ReferencePlace 0 None) (page_place_reference k) Anything IsSpellableReference reference_read (reference_element (codes "referencePlace")) reference_without_offsets (λ x. refl) (λ had. place_reference_law k) e l.place_refs shape
      (every_one (children_named (codes "referencePlace") e)) (ap (λ (x : PageLayer). x.place_refs) same) in
      let transition_refs = list_such k says 6 (codes "referenceTransition") tag.ReferenceTransition (slot_of tag.ReferenceTransition 0 None) (page_transition_reference k) Anything IsSpellableReference reference_read (reference_element (codes "referenceTransition")) reference_without_offsets (λ x. refl) (λ had. transition_reference_law k) e l.transition_refs shape
      (every_one (children_named (codes "referenceTransition") e)) (ap (λ (x : PageLayer). x.transition_refs) same) in
      let arcs = list_such k says 7 (codes "arc") tag.Arc (slot_of tag.Arc 0 None) (page_arc k) Anything (IsSpellableArc k) arc_read arc_element arc_without_offsets (λ x. refl) (λ had. arc_law k (term_fill k)) e l.arcs shape
      (every_one (children_named (codes "arc") e)) (ap (λ (x : PageLayer). x.arcs) same) in
      let pages = list_such k says 8 (codes "page") tag.Page (slot_of tag.Page 0 None) (page_subpage k) (Shallow n) (IsSpellablePage k n) page_read page_element page_without_offsets (λ x. ap (λ (e : Element). e.name) (page_made x)) (λ had. below) e l.pages shape
      (subpages_shallow n e deep) (ap (λ (x : PageLayer). x.pages) same) in
      record {
        id = id_there (id_rule ∷ []) e l.id (ap (λ (x : PageLayer). x.id) same) (subst (AllByRecursion (λ r. lack_fault e.attrs r ≡ None)) page_row.2 shape.lacks).0
            (subst (λ rules. AllByRecursion (λ a. attr_fault rules a ≡ None) e.attrs) page_row.2 shape.attrs) (λ v. refl);
        head = head_such k says (page_head k) e l.head shape (ap (λ (x : PageLayer). x.head) same);
        declarations = declarations.0;
        places = without_had k tag.Place (IsSpellablePlace k) l.places places.0;
        transitions = without_had k tag.Transition (IsSpellableTransition k) l.transitions transitions.0;
        place_refs = without_had k tag.ReferencePlace IsSpellableReference l.place_refs place_refs.0;
        transition_refs = without_had k tag.ReferenceTransition IsSpellableReference l.transition_refs transition_refs.0;
        arcs = without_had k tag.Arc (IsSpellableArc k) l.arcs arcs.0;
        pages = without_had k tag.Page (IsSpellablePage k n) l.pages pages.0;
      }

  page_both : (n : ℕ) → PagesReturn n → (page : Page) → IsSpellablePage k (suc n) page
      → IsShaped k tag.Page (page_element page) × (page_without_offsets (page_read (page_element page)) ≡ page_without_offsets page)
  page_both n below page such =
      let l = out-Page page in
      let w = page_of_layer l in
      let says = rule_for tag.Page in
      let fits = head_fits k says (page_head k) l.head such.head in
      let named = head_called k says (page_head k) l.head such.head in
      let declarations = group_is k says 2 (codes "declaration") tag.Declaration (slot_of tag.Declaration 0 None) (page_declaration k) Anything (IsSpellableLabel (AreSpelledDeclarations k)) declarations_label declaration_label declarations_without_offsets (λ x. refl) (declaration_law k) l.declarations
      such.declarations tt (λ had. omega arith) in
      let places = group_is k says 3 (codes "place") tag.Place (slot_of tag.Place 0 None) (page_place k) Anything (IsSpellablePlace k) place_read place_element place_without_offsets (λ x. refl) (λ had. place_law k (sort_fill k) (term_fill k)) l.places
      (with_had k tag.Place (IsSpellablePlace k) (objects_had k).0 l.places such.places) tt (λ had. omega arith) in
      let transitions = group_is k says 4 (codes "transition") tag.Transition (slot_of tag.Transition 0 None) (page_transition k) Anything (IsSpellableTransition k) transition_read transition_element transition_without_offsets (λ x. refl) (λ had. transition_law k (term_fill k)) l.transitions
      (with_had k tag.Transition (IsSpellableTransition k) (objects_had k).1 l.transitions such.transitions) tt (λ had. omega arith) in
      let place_refs = group_is k says 5 (codes "referencePlace") tag.ReferencePlace (slot_of tag.ReferencePlace 0 None) (page_place_reference k) Anything IsSpellableReference reference_read (reference_element (codes "referencePlace")) reference_without_offsets (λ x. refl) (λ had. place_reference_law k) l.place_refs
      (with_had k tag.ReferencePlace IsSpellableReference (objects_had k).2 l.place_refs such.place_refs) tt (λ had. omega arith) in
      let transition_refs = group_is k says 6 (codes "referenceTransition") tag.ReferenceTransition (slot_of tag.ReferenceTransition 0 None) (page_transition_reference k) Anything IsSpellableReference reference_read (reference_element (codes "referenceTransition")) reference_without_offsets (λ x. refl) (λ had. transition_reference_law k) l.transition_refs
      (with_had k tag.ReferenceTransition IsSpellableReference (objects_had k).3 l.transition_refs such.transition_refs) tt (λ had. omega arith) in
      let arcs = group_is k says 7 (codes "arc") tag.Arc (slot_of tag.Arc 0 None) (page_arc k) Anything (IsSpellableArc k) arc_read arc_element arc_without_offsets (λ x. refl) (λ had. arc_law k (term_fill k)) l.arcs
      (with_had k tag.Arc (IsSpellableArc k) (objects_had k).4 l.arcs such.arcs) tt (λ had. omega arith) in
      let pages = group_is k says 8 (codes "page") tag.Page (slot_of tag.Page 0 None) (page_subpage k) (Shallow n) (IsSpellablePage k n) page_read page_element page_without_offsets (λ x. ap (λ (e : Element). e.name) (page_made x)) (λ had. below) l.pages
      (with_had k tag.Page (IsSpellablePage k n) (pages_had k) l.pages such.pages) tt (λ had. omega arith) in
      let called : AreCalled (page_groups l) = (named.0, (named.1, (declarations.named, (places.named, (transitions.named, (place_refs.named, (transition_refs.named, (arcs.named, (pages.named, tt))))))))) in
      let kids = page_kids l in
      let head = head_back k says (page_head k) l.head such.head w (written_named w (page_groups l) kids called (codes "name") refl) (written_kept w (page_groups l) kids called) in
      let declarations_back = list_field (codes "declaration") w declarations_label declaration_label declarations_without_offsets l.declarations (written_named w (page_groups l) kids called (codes "declaration") refl) declarations.again in
      let places_back = list_field (codes "place") w place_read place_element place_without_offsets l.places (written_named w (page_groups l) kids called (codes "place") refl) places.again in
      let transitions_back = list_field (codes "transition") w transition_read transition_element transition_without_offsets l.transitions (written_named w (page_groups l) kids called (codes "transition") refl) transitions.again in
      let place_refs_back = list_field (codes "referencePlace") w reference_read (reference_element (codes "referencePlace")) reference_without_offsets l.place_refs (written_named w (page_groups l) kids called (codes "referencePlace") refl) place_refs.again in
      let transition_refs_back = list_field (codes "referenceTransition") w reference_read (reference_element (codes "referenceTransition")) reference_without_offsets l.transition_refs (written_named w (page_groups l) kids called (codes "referenceTransition") refl) transition_refs.again in
      let arcs_back = list_field (codes "arc") w arc_read arc_element arc_without_offsets l.arcs (written_named w (page_groups l) kids called (codes "arc") refl) arcs.again in
      let pages_back = list_field (codes "page") w page_read page_element page_without_offsets l.pages (written_named w (page_groups l) kids called (codes "page") refl) pages.again in
      let back : bare_page_layer (read_page_layer w) ≡ bare_page_layer l = λ j. record { id = l.id; head = head j; declarations = declarations_back j; places = places_back j; transitions = transitions_back j; place_refs = place_refs_back j; transition_refs = transition_refs_back j; arcs = arcs_back j; pages = pages_back j; at = 0 } in
      let shaped = shaped_elements k tag.Page w page_row.0
      (subst (λ ks. HasShape k says (made (codes "page") w.attrs ks)) (sym kids)
      (fit_shape k says (codes "page") w.attrs (page_groups l) page_row.0 page_row.1 (fits.0, (fits.1, (declarations.fits, (places.fits, (transitions.fits, (place_refs.fits, (transition_refs.fits, (arcs.fits, (pages.fits, tt)))))))))
      (subst (λ rules. AllByRecursion (λ a. attr_fault rules a ≡ None) w.attrs) (sym page_row.2) (id_fits l.id such.id, tt))
      (subst (AllByRecursion (λ r. lack_fault w.attrs r ≡ None)) (sym page_row.2) (refl, tt)))) in (
        subst (IsShaped k tag.Page) (sym (page_made page)) shaped,
        ap (λ x. page_without_offsets (page_read x)) (page_made page) ∙ bare_read_is w ∙ ap roll-Page back ∙ sym (bare_page_is page),
      )

  -- pages of so many levels return
  pub pages_return : (n : ℕ) → PagesReturn n
  pages_return zero = record { such = λ e page deep is alike. absurd (omega (arith, some_levels e)); shaped = λ page such. absurd such; same = λ page such. absurd such }
  pages_return (suc n) =
      let below = pages_return n in
      record { such = λ e page deep is alike. page_such n below e page deep is alike; shaped = λ page such. (page_both n below page such).0; same = λ page such. (page_both n below page such).1 }
