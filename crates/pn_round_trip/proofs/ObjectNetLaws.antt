-- Places, transitions, arcs and references that, offsets aside, elements without a fault of shape spell: they are written without one, and read back.
use Rattle.std.proofs.Common.{◌≡◌, ℕ, ◌≤◌, Bool, true, false, ◌||◌, length, IfSome, IsSome, arith, List, [], ◌∷◌, ◌++◌, append_assoc, append-nil, map, codes, Option, Some, None, refl, sym, ap, subst, ◌∙◌}
use Rattle.std.specs.Prelude.{option_to_list}
use Rattle.std.specs.List.{AllByRecursion}
use Rattle.std.specs.Option.{option_map, unwrap_or}
use Rattle.std.proofs.lemmas.List.{map-append}
use Rattle.pn_faults.specs.declared.reason.Reason.TheVariants as reason
use Rattle.pn_operators.specs.declared.kind.Kind.{Kind}
use Rattle.pn_operators.specs.declared.kind.Kind.TheVariants as kind
use Rattle.pn_syntax.specs.Offsets.{sort_without_offsets}
use Rattle.pn_syntax.specs.TermOffsets.{term_without_offsets}
use Rattle.pn_objects.specs.declared.label.Head.{Head}
use Rattle.pn_objects.specs.declared.label.Label.{Label}
use Rattle.pn_objects.specs.declared.object.Arc.{Arc}
use Rattle.pn_objects.specs.declared.object.Place.{Place}
use Rattle.pn_objects.specs.declared.object.Reference.{Reference}
use Rattle.pn_objects.specs.declared.object.Transition.{Transition}
use Rattle.pn_objects.specs.Offsets.{head_without_offsets, label_without_offsets, label_with, place_without_offsets, transition_without_offsets, arc_without_offsets, reference_without_offsets}
use Rattle.pn_markup.specs.Offsets.{without_offsets}
use Rattle.pn_tree.specs.declared.element.Element.{Element}
use Rattle.pn_tree.specs.declared.element.Child.{Child}
use Rattle.pn_tree.specs.declared.element.Child.TheVariants as children
use Rattle.pn_shape.specs.Attributes.{attr_fault, form_fault, lack_fault, rule_named, ruled_fault}
use Rattle.pn_shape.specs.Faults.{IsShaped}
use Rattle.pn_shape.specs.Numbers.{may_be_id}
use Rattle.pn_shape.specs.Rules.{Saying, rule_for, is_had, slot_of}
use Rattle.pn_shape.specs.Shaped.{HasShape}
use Rattle.pn_shape.specs.Spots.{has_slot, spot_at, spot_in, tag_of}
use Rattle.pn_shape.specs.declared.rule.AttrName.TheVariants as names
use Rattle.pn_shape.specs.declared.rule.AttrRule.{AttrRule}
use Rattle.pn_shape.specs.declared.rule.Content.TheVariants as contents
use Rattle.pn_shape.specs.declared.rule.Fill.TheVariants as fill
use Rattle.pn_shape.specs.declared.rule.Form.TheVariants as form
use Rattle.pn_shape.specs.declared.rule.Slot.{Slot}
use Rattle.pn_shape.specs.declared.tag.Tag.{Tag}
use Rattle.pn_shape.specs.declared.tag.Tag.TheVariants as tag
use Rattle.pn_shape.proofs.AttrLemmas.{id_right, needed_there, value_right}
use Rattle.pn_shape.proofs.WrittenLemmas.{as_kids, right}
use Rattle.pn_spelling.specs.Parts.{attribute_of, child_elements, child_named, children_named, has_name}
use Rattle.pn_spelling.specs.ReadNets.{arc_read, count_label, head_read, label_read, opaque_parts, place_read, reference_read, sort_label, term_label, transition_read}
use Rattle.pn_spelling.specs.ReadSorts.{sort_read}
use Rattle.pn_spelling.specs.ReadTerms.{term_read}
use Rattle.pn_spelling.specs.WriteNets.{arc_element, head_kids, kids_of, label_element, name_element, number_label, place_element, reference_element, transition_element}
use Rattle.pn_spelling.specs.WriteSorts.{sort_element}
use Rattle.pn_spelling.specs.WriteTerms.{term_element}
use Rattle.pn_spelling.specs.Writing.{made}
use Rattle.pn_round_trip.proofs.KidLemmas.{elements_shape, shaped_elements}
use Rattle.pn_round_trip.proofs.GroupNetLaws.{Group, FitsAt, IsCalled, AreCalled, fit_shape, members_of}
use Rattle.pn_round_trip.proofs.PartNetLaws.{PartLaw, NamedPlace, OpaquePlace, IsGroup, every_one, find_written, option_group_is, kept_called, kept_fits, kids_of_is, option_again, written_named, written_kept, is_there, option_such}
use Rattle.pn_round_trip.specs.Spellable.{IsCountLabel, IsHadWith, IsSpellableArc, IsSpellableHead, IsSpellableLabel, IsSpellableName, IsSpellablePlace, IsSpellableReference, IsSpellableTransition, IsSpelledSort, IsSpelledTerm}
use Rattle.pn_round_trip.proofs.LabelLaws.{Anything, FillLaw, count_label_law, label_law, name_law, opaque_slot, some_same}
use Rattle.pn_round_trip.proofs.RowLabelLaws.{marking_text, weight_text, marking_row, weight_row, type_row, hl_marking_row, condition_row, hl_inscription_row}

pub none_same : {A : Type 0} (a s : A) → None ≡ Some s → s ≡ a
none_same a s is = absurd cc

-- what was written for what may be there, or for things, read back

pub option_field : {A : Type 0} (n : List ℕ) (w : Element) (read : Element → A) (spell : A → Element) (clear : A → A) (o : Option A) → children_named n w ≡ map spell (option_to_list o) ++ []
    → map clear (map read (map spell (option_to_list o))) ≡ map clear (option_to_list o) → option_map clear (option_map read (child_named n w)) ≡ option_map clear o
option_field n w read spell clear o is again =
    ap (λ x. option_map clear (option_map read x)) (find_written (has_name n) spell o (child_elements w) (is ∙ append-nil (map spell (option_to_list o)))) ∙ option_again read spell clear o again

pub list_field : {A : Type 0} (n : List ℕ) (w : Element) (read : Element → A) (spell : A → Element) (clear : A → A) (xs : List A) → children_named n w ≡ map spell xs ++ []
    → map clear (map read (map spell xs)) ≡ map clear xs → map clear (map read (children_named n w)) ≡ map clear xs
list_field n w read spell clear xs is again = ap (λ es. map clear (map read es)) (is ∙ append-nil (map spell xs)) ∙ again

-- lists of kids that are lists of elements
pub joined_kids : (a b : List Child) (xs ys : List Element) → a ≡ as_kids xs → b ≡ as_kids ys → a ++ b ≡ as_kids (xs ++ ys)
joined_kids a b xs ys first second = (λ j. first j ++ second j) ∙ sym (map-append children.Element xs ys)

-- ids

abbrev pub id_rule : AttrRule
id_rule = record { name = names.Id; is_needed = true; form = form.Id }

pub id_there : (rules : List AttrRule) (e : Element) (id : List ℕ) → id ≡ attribute_of (codes "id") e → lack_fault e.attrs id_rule ≡ None → AllByRecursion (λ a. attr_fault rules a ≡ None) e.attrs
    → ((v : List ℕ) → ruled_fault (rule_named (codes "id") rules) (codes "id") v ≡ form_fault form.Id v) → may_be_id id ≡ true
id_there rules e id read lack no_fault is_id =
    let v = needed_there e.attrs id_rule lack refl in
    id_right id (ap (form_fault form.Id) (read ∙ ap (λ o. unwrap_or o []) v.1) ∙ sym (is_id v.0) ∙ value_right rules e.attrs (codes "id") v.0 no_fault v.1)

pub id_fits : (id : List ℕ) → may_be_id id ≡ true → form_fault form.Id id ≡ None
id_fits id is = right (may_be_id id) reason.BadId is

-- what each object may have

abbrev pub name_slot : Slot
name_slot = slot_of tag.Name 0 (Some 1)

abbrev pub name_group : Head → Group
name_group h = record { slot = name_slot; called = Some (codes "name"); members = map name_element (option_to_list h.name) }

abbrev pub opaque_group : Head → Group
opaque_group h = record { slot = opaque_slot; called = None; members = h.opaque }

pub head_kids_are : (h : Head) → head_kids h ≡ as_kids (map name_element (option_to_list h.name) ++ h.opaque)
head_kids_are h = joined_kids (kids_of name_element h.name) (as_kids h.opaque) (map name_element (option_to_list h.name)) h.opaque (kids_of_is name_element h.name) refl

pub record HeadRow (k : Kind) (says : Saying) : Type 0 where
  pub name : NamedPlace k says 0 (codes "name") tag.Name name_slot
  pub kept : OpaquePlace k says 1 opaque_slot

name_had : (k : Kind) → is_had k tag.Name ≡ true
unfolding rule_for
name_had k = refl

names_had : (k : Kind) (o : Option (Label (Unit {0}))) → IfSome o IsSpellableName → IfSome o (IsHadWith k tag.Name IsSpellableName)
names_had k None such = tt
names_had k (Some l) such = (name_had k, such)

had_names : (k : Kind) (o : Option (Label (Unit {0}))) → IfSome o (IsHadWith k tag.Name IsSpellableName) → IfSome o IsSpellableName
had_names k None such = tt
had_names k (Some l) such = such.1

module _ (k : Kind) (says : Saying) (row : HeadRow k says) where
  pub head_such : (e : Element) (h : Head) → HasShape k says e → head_without_offsets h ≡ head_without_offsets (head_read e) → IsSpellableHead h
  head_such e h shape alike = record {
    name = had_names k h.name (option_such k says 0 (codes "name") tag.Name name_slot row.name Anything IsSpellableName (label_read tt) name_element label_without_offsets (λ l. refl) (λ had. name_law k) e h.name refl shape
        (every_one (children_named (codes "name") e)) (ap (λ (x : Head). x.name) alike)).0;
    opaque = kept_called e h.opaque (ap (λ (x : Head). x.opaque) alike);
  }

  module _ (h : Head) (such : IsSpellableHead h) where
    head_name : IsGroup k says 0 (codes "name") tag.Name name_slot row.name Anything IsSpellableName (label_read tt) name_element label_without_offsets (λ l. refl) (λ had. name_law k) (option_to_list h.name)
    head_name =
        option_group_is k says 0 (codes "name") tag.Name name_slot row.name Anything IsSpellableName (label_read tt) name_element label_without_offsets (λ l. refl) (λ had. name_law k) h.name refl
        (names_had k h.name such.name) (λ had. omega arith)

    -- the first two groups
    pub head_fits : FitsAt k says 0 (name_group h) × FitsAt k says 1 (opaque_group h)
    head_fits = (head_name.fits, kept_fits k says 1 opaque_slot row.kept h.opaque such.opaque)

    pub head_called : AllByRecursion (IsCalled (Some (codes "name"))) (map name_element (option_to_list h.name)) × AllByRecursion (IsCalled None) h.opaque
    head_called = (head_name.named, such.opaque)

    pub head_back : (w : Element) → children_named (codes "name") w ≡ map name_element (option_to_list h.name) ++ [] → opaque_parts w ≡ h.opaque ++ []
        → head_without_offsets (head_read w) ≡ head_without_offsets h
    head_back w names kept =
        let name = option_field (codes "name") w (label_read tt) name_element label_without_offsets h.name names head_name.again in
        let opaque = ap (map without_offsets) (kept ∙ append-nil h.opaque) in
        λ j. record { name = name j; opaque = opaque j }

-- where one has to stand

pub slot_had : (k : Kind) (t : Tag) → has_slot k (fill.One t) ≡ true → is_had k t ≡ true
unfolding has_slot
slot_had k t has = by (is_had k t) has
  where
    by : (b : Bool) → (b || false) ≡ true → b ≡ true
    by true has = refl
    by false has = absurd cc

pub had_slot : (k : Kind) (t : Tag) → is_had k t ≡ true → has_slot k (fill.One t) ≡ true
unfolding has_slot
had_slot k t had = ap (λ b. b || false) had

some_listed : {A : Type 0} (o : Option A) → IsSome o → 1 ≤ length (option_to_list o)
some_listed None is = absurd cc
some_listed (Some a) is = omega arith

-- references

abbrev ref_rule : AttrRule
ref_rule = record { name = names.Ref; is_needed = true; form = form.Any }

abbrev reference_groups : Reference → List Group
reference_groups r = name_group r.head ∷ opaque_group r.head ∷ []

record ReferenceRow (k : Kind) (t : Tag) : Type 0 where
  content : (rule_for t).content ≡ contents.Elements
  slots : (rule_for t).slots ≡ name_slot ∷ opaque_slot ∷ []
  attrs : (rule_for t).attrs ≡ id_rule ∷ ref_rule ∷ []
  head : HeadRow k (rule_for t)

module _ (k : Kind) (t : Tag) (name : List ℕ) (row : ReferenceRow k t) where
  reference_kids : (r : Reference) → (reference_element name r).kids ≡ as_kids (members_of (reference_groups r))
  reference_kids r = head_kids_are r.head ∙ ap (λ os. as_kids (map name_element (option_to_list r.head.name) ++ os)) (sym (append-nil r.head.opaque))

  reference_such : (e : Element) (r : Reference) → IsShaped k t e → reference_without_offsets r ≡ reference_without_offsets (reference_read e) → IsSpellableReference r
  reference_such e r is alike =
      let shape = elements_shape k t e row.content is in
      record {
        id = id_there (id_rule ∷ ref_rule ∷ []) e r.id (ap (λ (x : Reference). x.id) alike) (subst (AllByRecursion (λ r. lack_fault e.attrs r ≡ None)) row.attrs shape.lacks).0
            (subst (λ rules. AllByRecursion (λ a. attr_fault rules a ≡ None) e.attrs) row.attrs shape.attrs) (λ v. refl);
        head = head_such k (rule_for t) row.head e r.head shape (ap (λ (x : Reference). x.head) alike);
      }

  reference_both : (r : Reference) → IsSpellableReference r → IsShaped k t (reference_element name r) × (reference_without_offsets (reference_read (reference_element name r)) ≡ reference_without_offsets r)
  reference_both r such =
      let w = reference_element name r in
      let fits = head_fits k (rule_for t) row.head r.head such.head in
      let named = head_called k (rule_for t) row.head r.head such.head in
      let called : AreCalled (reference_groups r) = (named.0, (named.1, tt)) in
      let kids = reference_kids r in
      let head = head_back k (rule_for t) row.head r.head such.head w (written_named w (reference_groups r) kids called (codes "name") refl) (written_kept w (reference_groups r) kids called) in (
        shaped_elements k t w row.content
            (subst (λ ks. HasShape k (rule_for t) (made name w.attrs ks)) (sym kids)
            (fit_shape k (rule_for t) name w.attrs (reference_groups r) row.content row.slots (fits.0, (fits.1, tt))
            (subst (λ rules. AllByRecursion (λ a. attr_fault rules a ≡ None) w.attrs) (sym row.attrs) (id_fits r.id such.id, (refl, tt)))
            (subst (AllByRecursion (λ r. lack_fault w.attrs r ≡ None)) (sym row.attrs) (refl, (refl, tt))))),
        λ j. record { id = r.id; head = head j; refers = r.refers; at = 0 },
      )

  reference_law : PartLaw k t Anything IsSpellableReference reference_read (reference_element name) reference_without_offsets
  reference_law = record { such = λ e r about is alike. reference_such e r is alike; shaped = λ r such. (reference_both r such).0; same = λ r such. (reference_both r such).1 }

place_reference_row : (k : Kind) → ReferenceRow k tag.ReferencePlace
unfolding rule_for spot_in tag_of
place_reference_row k = record {
  content = refl;
  slots = refl;
  attrs = refl;
  head = record {
    name = record { at = refl; here = refl; fills = refl; row = refl; spot = λ s h. some_same (spot_at 0 tag.Name) s h; there = λ had. refl };
    kept = record { most = refl; least = refl; graphics = refl; toolspecific = refl };
  };
}

transition_reference_row : (k : Kind) → ReferenceRow k tag.ReferenceTransition
unfolding rule_for spot_in tag_of
transition_reference_row k = record {
  content = refl;
  slots = refl;
  attrs = refl;
  head = record {
    name = record { at = refl; here = refl; fills = refl; row = refl; spot = λ s h. some_same (spot_at 0 tag.Name) s h; there = λ had. refl };
    kept = record { most = refl; least = refl; graphics = refl; toolspecific = refl };
  };
}

pub place_reference_law : (k : Kind) → PartLaw k tag.ReferencePlace Anything IsSpellableReference reference_read (reference_element (codes "referencePlace")) reference_without_offsets
place_reference_law k = reference_law k tag.ReferencePlace (codes "referencePlace") (place_reference_row k)

pub transition_reference_law : (k : Kind) → PartLaw k tag.ReferenceTransition Anything IsSpellableReference reference_read (reference_element (codes "referenceTransition")) reference_without_offsets
transition_reference_law k = reference_law k tag.ReferenceTransition (codes "referenceTransition") (transition_reference_row k)

-- places

place_head : (k : Kind) → HeadRow k (rule_for tag.Place)
unfolding rule_for spot_in tag_of
place_head k = record {
  name = record { at = refl; here = refl; fills = refl; row = refl; spot = λ s h. some_same (spot_at 0 tag.Name) s h; there = λ had. refl };
  kept = record { most = refl; least = refl; graphics = refl; toolspecific = refl };
}

place_marking : (k : Kind) → NamedPlace k (rule_for tag.Place) 2 (codes "initialMarking") tag.InitialMarking (slot_of tag.InitialMarking 0 (Some 1))
unfolding rule_for spot_in tag_of
place_marking kind.PtNet = record { at = refl; here = refl; fills = refl; row = refl; spot = λ s h. some_same (spot_at 2 tag.InitialMarking) s h; there = λ had. refl }
place_marking kind.Symmetric = record { at = refl; here = refl; fills = refl; row = refl; spot = λ s h. none_same (spot_at 2 tag.InitialMarking) s h; there = λ had. absurd cc }
place_marking kind.HighLevel = record { at = refl; here = refl; fills = refl; row = refl; spot = λ s h. none_same (spot_at 2 tag.InitialMarking) s h; there = λ had. absurd cc }

place_type : (k : Kind) → NamedPlace k (rule_for tag.Place) 3 (codes "type") tag.Type (slot_of tag.Type 1 (Some 1))
unfolding rule_for spot_in tag_of
place_type kind.PtNet = record { at = refl; here = refl; fills = refl; row = refl; spot = λ s h. none_same (spot_at 3 tag.Type) s h; there = λ had. absurd cc }
place_type kind.Symmetric = record { at = refl; here = refl; fills = refl; row = refl; spot = λ s h. some_same (spot_at 3 tag.Type) s h; there = λ had. refl }
place_type kind.HighLevel = record { at = refl; here = refl; fills = refl; row = refl; spot = λ s h. some_same (spot_at 3 tag.Type) s h; there = λ had. refl }

place_hl_marking : (k : Kind) → NamedPlace k (rule_for tag.Place) 4 (codes "hlinitialMarking") tag.HlInitialMarking (slot_of tag.HlInitialMarking 0 (Some 1))
unfolding rule_for spot_in tag_of
place_hl_marking kind.PtNet = record { at = refl; here = refl; fills = refl; row = refl; spot = λ s h. none_same (spot_at 4 tag.HlInitialMarking) s h; there = λ had. absurd cc }
place_hl_marking kind.Symmetric = record { at = refl; here = refl; fills = refl; row = refl; spot = λ s h. some_same (spot_at 4 tag.HlInitialMarking) s h; there = λ had. refl }
place_hl_marking kind.HighLevel = record { at = refl; here = refl; fills = refl; row = refl; spot = λ s h. some_same (spot_at 4 tag.HlInitialMarking) s h; there = λ had. refl }

abbrev marking_slot : Slot
marking_slot = slot_of tag.InitialMarking 0 (Some 1)

abbrev type_slot : Slot
type_slot = slot_of tag.Type 1 (Some 1)

abbrev hl_marking_slot : Slot
hl_marking_slot = slot_of tag.HlInitialMarking 0 (Some 1)

place_row : ((rule_for tag.Place).content ≡ contents.Elements) × ((rule_for tag.Place).slots ≡ name_slot ∷ opaque_slot ∷ marking_slot ∷ type_slot ∷ hl_marking_slot ∷ []) × ((rule_for tag.Place).attrs ≡ id_rule ∷ [])
unfolding rule_for
place_row = (refl, refl, refl)

abbrev place_groups : Place → List Group
place_groups p =
    name_group p.head ∷ opaque_group p.head
    ∷ record { slot = marking_slot; called = Some (codes "initialMarking"); members = map (number_label (codes "initialMarking")) (option_to_list p.marking) }
    ∷ record { slot = type_slot; called = Some (codes "type"); members = map (label_element (codes "type") sort_element) (option_to_list p.sort) }
    ∷ record { slot = hl_marking_slot; called = Some (codes "hlinitialMarking"); members = map (label_element (codes "hlinitialMarking") term_element) (option_to_list p.hl_marking) } ∷ []

place_kids : (p : Place) → (place_element p).kids ≡ as_kids (members_of (place_groups p))
place_kids p =
    let n = map name_element (option_to_list p.head.name) in
    let o = p.head.opaque in
    let m = map (number_label (codes "initialMarking")) (option_to_list p.marking) in
    let s = map (label_element (codes "type") sort_element) (option_to_list p.sort) in
    let h = map (label_element (codes "hlinitialMarking") term_element) (option_to_list p.hl_marking) in
    let sh = joined_kids (kids_of (label_element (codes "type") sort_element) p.sort) (kids_of (label_element (codes "hlinitialMarking") term_element) p.hl_marking) s h
    (kids_of_is (label_element (codes "type") sort_element) p.sort) (kids_of_is (label_element (codes "hlinitialMarking") term_element) p.hl_marking) in
    let msh = joined_kids (kids_of (number_label (codes "initialMarking")) p.marking) (kids_of (label_element (codes "type") sort_element) p.sort ++ kids_of (label_element (codes "hlinitialMarking") term_element) p.hl_marking)
    m (s ++ h) (kids_of_is (number_label (codes "initialMarking")) p.marking) sh in
    joined_kids (head_kids p.head)
    (kids_of (number_label (codes "initialMarking")) p.marking ++ (kids_of (label_element (codes "type") sort_element) p.sort ++ kids_of (label_element (codes "hlinitialMarking") term_element) p.hl_marking))
    (n ++ o) (m ++ (s ++ h)) (head_kids_are p.head) msh
    ∙ ap as_kids (append_assoc n o (m ++ (s ++ h)) ∙ ap (λ l. n ++ (o ++ (m ++ (s ++ l)))) (sym (append-nil h)))

module _ (k : Kind) (sorts : FillLaw k fill.Sort (IsSpelledSort k) sort_read sort_element sort_without_offsets) (terms : FillLaw k fill.Term (IsSpelledTerm k) term_read term_element term_without_offsets) where
  place_such : (e : Element) (p : Place) → IsShaped k tag.Place e → place_without_offsets p ≡ place_without_offsets (place_read e) → IsSpellablePlace k p
  place_such e p is alike =
      let shape = elements_shape k tag.Place e place_row.0 is in
      let says = rule_for tag.Place in
      let marking = option_such k says 2 (codes "initialMarking") tag.InitialMarking marking_slot (place_marking k) Anything (IsCountLabel 0) count_label (number_label (codes "initialMarking")) label_without_offsets (λ l. refl)
      (λ had. count_label_law k tag.InitialMarking tag.MarkingText 0 (codes "initialMarking") (marking_row k) (marking_text k)) e p.marking refl shape
      (every_one (children_named (codes "initialMarking") e)) (ap (λ (x : Place). x.marking) alike) in
      let sort = option_such k says 3 (codes "type") tag.Type type_slot (place_type k) Anything (IsSpellableLabel (IsSpelledSort k)) sort_label (label_element (codes "type") sort_element) (label_with sort_without_offsets) (λ l. refl)
      (λ had. label_law k tag.Type tag.SortStructure fill.Sort (codes "type") (IsSpelledSort k) sort_read sort_element sort_without_offsets (type_row k had) sorts) e p.sort refl shape
      (every_one (children_named (codes "type") e)) (ap (λ (x : Place). x.sort) alike) in
      let hl_marking = option_such k says 4 (codes "hlinitialMarking") tag.HlInitialMarking hl_marking_slot (place_hl_marking k) Anything (IsSpellableLabel (IsSpelledTerm k)) term_label (label_element (codes "hlinitialMarking") term_element) (label_with term_without_offsets) (λ l. refl)
      (λ had. label_law k tag.HlInitialMarking tag.TermStructure fill.Term (codes "hlinitialMarking") (IsSpelledTerm k) term_read term_element term_without_offsets (hl_marking_row k had) terms) e p.hl_marking refl shape
      (every_one (children_named (codes "hlinitialMarking") e)) (ap (λ (x : Place). x.hl_marking) alike) in
      record {
        id = id_there (id_rule ∷ []) e p.id (ap (λ (x : Place). x.id) alike) (subst (AllByRecursion (λ r. lack_fault e.attrs r ≡ None)) place_row.2 shape.lacks).0
            (subst (λ rules. AllByRecursion (λ a. attr_fault rules a ≡ None) e.attrs) place_row.2 shape.attrs) (λ v. refl);
        head = head_such k says (place_head k) e p.head shape (ap (λ (x : Place). x.head) alike);
        marking = marking.0;
        sort = sort.0;
        has_sort = λ had. is_there k says 3 (codes "type") tag.Type type_slot (place_type k) Anything (IsSpellableLabel (IsSpelledSort k)) sort_label (label_element (codes "type") sort_element) (label_with sort_without_offsets) (λ l. refl)
            (λ had. label_law k tag.Type tag.SortStructure fill.Sort (codes "type") (IsSpelledSort k) sort_read sort_element sort_without_offsets (type_row k had) sorts) e p.sort shape refl sort.1 (had_slot k tag.Type had);
        hl_marking = hl_marking.0;
      }

  place_both : (p : Place) → IsSpellablePlace k p → IsShaped k tag.Place (place_element p) × (place_without_offsets (place_read (place_element p)) ≡ place_without_offsets p)
  place_both p such =
      let w = place_element p in
      let says = rule_for tag.Place in
      let fits = head_fits k says (place_head k) p.head such.head in
      let named = head_called k says (place_head k) p.head such.head in
      let marking = option_group_is k says 2 (codes "initialMarking") tag.InitialMarking marking_slot (place_marking k) Anything (IsCountLabel 0) count_label (number_label (codes "initialMarking")) label_without_offsets (λ l. refl)
      (λ had. count_label_law k tag.InitialMarking tag.MarkingText 0 (codes "initialMarking") (marking_row k) (marking_text k)) p.marking refl such.marking (λ had. omega arith) in
      let sort = option_group_is k says 3 (codes "type") tag.Type type_slot (place_type k) Anything (IsSpellableLabel (IsSpelledSort k)) sort_label (label_element (codes "type") sort_element) (label_with sort_without_offsets) (λ l. refl)
      (λ had. label_law k tag.Type tag.SortStructure fill.Sort (codes "type") (IsSpelledSort k) sort_read sort_element sort_without_offsets (type_row k had) sorts) p.sort refl such.sort (λ had. some_listed p.sort (such.has_sort (slot_had k tag.Type had))) in
      let hl_marking = option_group_is k says 4 (codes "hlinitialMarking") tag.HlInitialMarking hl_marking_slot (place_hl_marking k) Anything (IsSpellableLabel (IsSpelledTerm k)) term_label (label_element (codes "hlinitialMarking") term_element) (label_with term_without_offsets) (λ l. refl)
      (λ had. label_law k tag.HlInitialMarking tag.TermStructure fill.Term (codes "hlinitialMarking") (IsSpelledTerm k) term_read term_element term_without_offsets (hl_marking_row k had) terms) p.hl_marking refl such.hl_marking (λ had. omega arith) in
      let called : AreCalled (place_groups p) = (named.0, (named.1, (marking.named, (sort.named, (hl_marking.named, tt))))) in
      let kids = place_kids p in
      let head = head_back k says (place_head k) p.head such.head w (written_named w (place_groups p) kids called (codes "name") refl) (written_kept w (place_groups p) kids called) in
      let marking_back = option_field (codes "initialMarking") w count_label (number_label (codes "initialMarking")) label_without_offsets p.marking (written_named w (place_groups p) kids called (codes "initialMarking") refl) marking.again in
      let sort_back = option_field (codes "type") w sort_label (label_element (codes "type") sort_element) (label_with sort_without_offsets) p.sort (written_named w (place_groups p) kids called (codes "type") refl) sort.again in
      let hl_marking_back = option_field (codes "hlinitialMarking") w term_label (label_element (codes "hlinitialMarking") term_element) (label_with term_without_offsets) p.hl_marking (written_named w (place_groups p) kids called (codes "hlinitialMarking") refl) hl_marking.again in (
        shaped_elements k tag.Place w place_row.0
            (subst (λ ks. HasShape k says (made (codes "place") w.attrs ks)) (sym kids)
            (fit_shape k says (codes "place") w.attrs (place_groups p) place_row.0 place_row.1 (fits.0, (fits.1, (marking.fits, (sort.fits, (hl_marking.fits, tt)))))
            (subst (λ rules. AllByRecursion (λ a. attr_fault rules a ≡ None) w.attrs) (sym place_row.2) (id_fits p.id such.id, tt))
            (subst (AllByRecursion (λ r. lack_fault w.attrs r ≡ None)) (sym place_row.2) (refl, tt)))),
        λ j. record { id = p.id; head = head j; marking = marking_back j; sort = sort_back j; hl_marking = hl_marking_back j; at = 0 },
      )

  pub place_law : PartLaw k tag.Place Anything (IsSpellablePlace k) place_read place_element place_without_offsets
  place_law = record { such = λ e p about is alike. place_such e p is alike; shaped = λ p such. (place_both p such).0; same = λ p such. (place_both p such).1 }

-- transitions

transition_head : (k : Kind) → HeadRow k (rule_for tag.Transition)
unfolding rule_for spot_in tag_of
transition_head k = record {
  name = record { at = refl; here = refl; fills = refl; row = refl; spot = λ s h. some_same (spot_at 0 tag.Name) s h; there = λ had. refl };
  kept = record { most = refl; least = refl; graphics = refl; toolspecific = refl };
}

transition_condition : (k : Kind) → NamedPlace k (rule_for tag.Transition) 2 (codes "condition") tag.Condition (slot_of tag.Condition 0 (Some 1))
unfolding rule_for spot_in tag_of
transition_condition kind.PtNet = record { at = refl; here = refl; fills = refl; row = refl; spot = λ s h. none_same (spot_at 2 tag.Condition) s h; there = λ had. absurd cc }
transition_condition kind.Symmetric = record { at = refl; here = refl; fills = refl; row = refl; spot = λ s h. some_same (spot_at 2 tag.Condition) s h; there = λ had. refl }
transition_condition kind.HighLevel = record { at = refl; here = refl; fills = refl; row = refl; spot = λ s h. some_same (spot_at 2 tag.Condition) s h; there = λ had. refl }

abbrev condition_slot : Slot
condition_slot = slot_of tag.Condition 0 (Some 1)

transition_row : ((rule_for tag.Transition).content ≡ contents.Elements) × ((rule_for tag.Transition).slots ≡ name_slot ∷ opaque_slot ∷ condition_slot ∷ []) × ((rule_for tag.Transition).attrs ≡ id_rule ∷ [])
unfolding rule_for
transition_row = (refl, refl, refl)

abbrev transition_groups : Transition → List Group
transition_groups t =
    name_group t.head ∷ opaque_group t.head
    ∷ record { slot = condition_slot; called = Some (codes "condition"); members = map (label_element (codes "condition") term_element) (option_to_list t.condition) } ∷ []

transition_kids : (t : Transition) → (transition_element t).kids ≡ as_kids (members_of (transition_groups t))
transition_kids t =
    let n = map name_element (option_to_list t.head.name) in
    let o = t.head.opaque in
    let c = map (label_element (codes "condition") term_element) (option_to_list t.condition) in
    joined_kids (head_kids t.head) (kids_of (label_element (codes "condition") term_element) t.condition) (n ++ o) c (head_kids_are t.head) (kids_of_is (label_element (codes "condition") term_element) t.condition)
    ∙ ap as_kids (append_assoc n o c ∙ ap (λ l. n ++ (o ++ l)) (sym (append-nil c)))

module _ (k : Kind) (terms : FillLaw k fill.Term (IsSpelledTerm k) term_read term_element term_without_offsets) where
  transition_such : (e : Element) (t : Transition) → IsShaped k tag.Transition e → transition_without_offsets t ≡ transition_without_offsets (transition_read e) → IsSpellableTransition k t
  transition_such e t is alike =
      let shape = elements_shape k tag.Transition e transition_row.0 is in
      let says = rule_for tag.Transition in
      let condition = option_such k says 2 (codes "condition") tag.Condition condition_slot (transition_condition k) Anything (IsSpellableLabel (IsSpelledTerm k)) term_label (label_element (codes "condition") term_element) (label_with term_without_offsets) (λ l. refl)
      (λ had. label_law k tag.Condition tag.TermStructure fill.Term (codes "condition") (IsSpelledTerm k) term_read term_element term_without_offsets (condition_row k had) terms) e t.condition refl shape
      (every_one (children_named (codes "condition") e)) (ap (λ (x : Transition). x.condition) alike) in
      record {
        id = id_there (id_rule ∷ []) e t.id (ap (λ (x : Transition). x.id) alike) (subst (AllByRecursion (λ r. lack_fault e.attrs r ≡ None)) transition_row.2 shape.lacks).0
            (subst (λ rules. AllByRecursion (λ a. attr_fault rules a ≡ None) e.attrs) transition_row.2 shape.attrs) (λ v. refl);
        head = head_such k says (transition_head k) e t.head shape (ap (λ (x : Transition). x.head) alike);
        condition = condition.0;
      }

  transition_both : (t : Transition) → IsSpellableTransition k t → IsShaped k tag.Transition (transition_element t) × (transition_without_offsets (transition_read (transition_element t)) ≡ transition_without_offsets t)
  transition_both t such =
      let w = transition_element t in
      let says = rule_for tag.Transition in
      let fits = head_fits k says (transition_head k) t.head such.head in
      let named = head_called k says (transition_head k) t.head such.head in
      let condition = option_group_is k says 2 (codes "condition") tag.Condition condition_slot (transition_condition k) Anything (IsSpellableLabel (IsSpelledTerm k)) term_label (label_element (codes "condition") term_element) (label_with term_without_offsets) (λ l. refl)
      (λ had. label_law k tag.Condition tag.TermStructure fill.Term (codes "condition") (IsSpelledTerm k) term_read term_element term_without_offsets (condition_row k had) terms) t.condition refl such.condition (λ had. omega arith) in
      let called : AreCalled (transition_groups t) = (named.0, (named.1, (condition.named, tt))) in
      let kids = transition_kids t in
      let head = head_back k says (transition_head k) t.head such.head w (written_named w (transition_groups t) kids called (codes "name") refl) (written_kept w (transition_groups t) kids called) in
      let condition_back = option_field (codes "condition") w term_label (label_element (codes "condition") term_element) (label_with term_without_offsets) t.condition (written_named w (transition_groups t) kids called (codes "condition") refl) condition.again in (
        shaped_elements k tag.Transition w transition_row.0
            (subst (λ ks. HasShape k says (made (codes "transition") w.attrs ks)) (sym kids)
            (fit_shape k says (codes "transition") w.attrs (transition_groups t) transition_row.0 transition_row.1 (fits.0, (fits.1, (condition.fits, tt)))
            (subst (λ rules. AllByRecursion (λ a. attr_fault rules a ≡ None) w.attrs) (sym transition_row.2) (id_fits t.id such.id, tt))
            (subst (AllByRecursion (λ r. lack_fault w.attrs r ≡ None)) (sym transition_row.2) (refl, tt)))),
        λ j. record { id = t.id; head = head j; condition = condition_back j; at = 0 },
      )

  pub transition_law : PartLaw k tag.Transition Anything (IsSpellableTransition k) transition_read transition_element transition_without_offsets
  transition_law = record { such = λ e t about is alike. transition_such e t is alike; shaped = λ t such. (transition_both t such).0; same = λ t such. (transition_both t such).1 }

-- arcs

arc_head : (k : Kind) → HeadRow k (rule_for tag.Arc)
unfolding rule_for spot_in tag_of
arc_head k = record {
  name = record { at = refl; here = refl; fills = refl; row = refl; spot = λ s h. some_same (spot_at 0 tag.Name) s h; there = λ had. refl };
  kept = record { most = refl; least = refl; graphics = refl; toolspecific = refl };
}

arc_inscription : (k : Kind) → NamedPlace k (rule_for tag.Arc) 2 (codes "inscription") tag.Inscription (slot_of tag.Inscription 0 (Some 1))
unfolding rule_for spot_in tag_of
arc_inscription kind.PtNet = record { at = refl; here = refl; fills = refl; row = refl; spot = λ s h. some_same (spot_at 2 tag.Inscription) s h; there = λ had. refl }
arc_inscription kind.Symmetric = record { at = refl; here = refl; fills = refl; row = refl; spot = λ s h. none_same (spot_at 2 tag.Inscription) s h; there = λ had. absurd cc }
arc_inscription kind.HighLevel = record { at = refl; here = refl; fills = refl; row = refl; spot = λ s h. none_same (spot_at 2 tag.Inscription) s h; there = λ had. absurd cc }

arc_hl_inscription : (k : Kind) → NamedPlace k (rule_for tag.Arc) 3 (codes "hlinscription") tag.HlInscription (slot_of tag.HlInscription 1 (Some 1))
unfolding rule_for spot_in tag_of
arc_hl_inscription kind.PtNet = record { at = refl; here = refl; fills = refl; row = refl; spot = λ s h. none_same (spot_at 3 tag.HlInscription) s h; there = λ had. absurd cc }
arc_hl_inscription kind.Symmetric = record { at = refl; here = refl; fills = refl; row = refl; spot = λ s h. some_same (spot_at 3 tag.HlInscription) s h; there = λ had. refl }
arc_hl_inscription kind.HighLevel = record { at = refl; here = refl; fills = refl; row = refl; spot = λ s h. some_same (spot_at 3 tag.HlInscription) s h; there = λ had. refl }

abbrev weight_slot : Slot
weight_slot = slot_of tag.Inscription 0 (Some 1)

abbrev hl_inscription_slot : Slot
hl_inscription_slot = slot_of tag.HlInscription 1 (Some 1)

abbrev source_rule : AttrRule
source_rule = record { name = names.Source; is_needed = true; form = form.Any }

abbrev target_rule : AttrRule
target_rule = record { name = names.Target; is_needed = true; form = form.Any }

arc_row : ((rule_for tag.Arc).content ≡ contents.Elements) × ((rule_for tag.Arc).slots ≡ name_slot ∷ opaque_slot ∷ weight_slot ∷ hl_inscription_slot ∷ []) × ((rule_for tag.Arc).attrs ≡ id_rule ∷ source_rule ∷ target_rule ∷ [])
unfolding rule_for
arc_row = (refl, refl, refl)

abbrev arc_groups : Arc → List Group
arc_groups a =
    name_group a.head ∷ opaque_group a.head
    ∷ record { slot = weight_slot; called = Some (codes "inscription"); members = map (number_label (codes "inscription")) (option_to_list a.weight) }
    ∷ record { slot = hl_inscription_slot; called = Some (codes "hlinscription"); members = map (label_element (codes "hlinscription") term_element) (option_to_list a.inscription) } ∷ []

arc_kids : (a : Arc) → (arc_element a).kids ≡ as_kids (members_of (arc_groups a))
arc_kids a =
    let n = map name_element (option_to_list a.head.name) in
    let o = a.head.opaque in
    let m = map (number_label (codes "inscription")) (option_to_list a.weight) in
    let h = map (label_element (codes "hlinscription") term_element) (option_to_list a.inscription) in
    let mh = joined_kids (kids_of (number_label (codes "inscription")) a.weight) (kids_of (label_element (codes "hlinscription") term_element) a.inscription) m h
    (kids_of_is (number_label (codes "inscription")) a.weight) (kids_of_is (label_element (codes "hlinscription") term_element) a.inscription) in
    joined_kids (head_kids a.head) (kids_of (number_label (codes "inscription")) a.weight ++ kids_of (label_element (codes "hlinscription") term_element) a.inscription)
    (n ++ o) (m ++ h) (head_kids_are a.head) mh
    ∙ ap as_kids (append_assoc n o (m ++ h) ∙ ap (λ l. n ++ (o ++ (m ++ l))) (sym (append-nil h)))

module _ (k : Kind) (terms : FillLaw k fill.Term (IsSpelledTerm k) term_read term_element term_without_offsets) where
  arc_such : (e : Element) (a : Arc) → IsShaped k tag.Arc e → arc_without_offsets a ≡ arc_without_offsets (arc_read e) → IsSpellableArc k a
  arc_such e a is alike =
      let shape = elements_shape k tag.Arc e arc_row.0 is in
      let says = rule_for tag.Arc in
      let weight = option_such k says 2 (codes "inscription") tag.Inscription weight_slot (arc_inscription k) Anything (IsCountLabel 1) count_label (number_label (codes "inscription")) label_without_offsets (λ l. refl)
      (λ had. count_label_law k tag.Inscription tag.WeightText 1 (codes "inscription") (weight_row k) (weight_text k)) e a.weight refl shape
      (every_one (children_named (codes "inscription") e)) (ap (λ (x : Arc). x.weight) alike) in
      let inscription = option_such k says 3 (codes "hlinscription") tag.HlInscription hl_inscription_slot (arc_hl_inscription k) Anything (IsSpellableLabel (IsSpelledTerm k)) term_label (label_element (codes "hlinscription") term_element) (label_with term_without_offsets) (λ l. refl)
      (λ had. label_law k tag.HlInscription tag.TermStructure fill.Term (codes "hlinscription") (IsSpelledTerm k) term_read term_element term_without_offsets (hl_inscription_row k had) terms) e a.inscription refl shape
      (every_one (children_named (codes "hlinscription") e)) (ap (λ (x : Arc). x.inscription) alike) in
      record {
        id = id_there (id_rule ∷ source_rule ∷ target_rule ∷ []) e a.id (ap (λ (x : Arc). x.id) alike) (subst (AllByRecursion (λ r. lack_fault e.attrs r ≡ None)) arc_row.2 shape.lacks).0
            (subst (λ rules. AllByRecursion (λ a. attr_fault rules a ≡ None) e.attrs) arc_row.2 shape.attrs) (λ v. refl);
        head = head_such k says (arc_head k) e a.head shape (ap (λ (x : Arc). x.head) alike);
        weight = weight.0;
        inscription = inscription.0;
        has_inscription = λ had. is_there k says 3 (codes "hlinscription") tag.HlInscription hl_inscription_slot (arc_hl_inscription k) Anything (IsSpellableLabel (IsSpelledTerm k)) term_label (label_element (codes "hlinscription") term_element) (label_with term_without_offsets) (λ l. refl)
            (λ had. label_law k tag.HlInscription tag.TermStructure fill.Term (codes "hlinscription") (IsSpelledTerm k) term_read term_element term_without_offsets (hl_inscription_row k had) terms) e a.inscription shape refl inscription.1 (had_slot k tag.HlInscription had);
      }

  arc_both : (a : Arc) → IsSpellableArc k a → IsShaped k tag.Arc (arc_element a) × (arc_without_offsets (arc_read (arc_element a)) ≡ arc_without_offsets a)
  arc_both a such =
      let w = arc_element a in
      let says = rule_for tag.Arc in
      let fits = head_fits k says (arc_head k) a.head such.head in
      let named = head_called k says (arc_head k) a.head such.head in
      let weight = option_group_is k says 2 (codes "inscription") tag.Inscription weight_slot (arc_inscription k) Anything (IsCountLabel 1) count_label (number_label (codes "inscription")) label_without_offsets (λ l. refl)
      (λ had. count_label_law k tag.Inscription tag.WeightText 1 (codes "inscription") (weight_row k) (weight_text k)) a.weight refl such.weight (λ had. omega arith) in
      let inscription = option_group_is k says 3 (codes "hlinscription") tag.HlInscription hl_inscription_slot (arc_hl_inscription k) Anything (IsSpellableLabel (IsSpelledTerm k)) term_label (label_element (codes "hlinscription") term_element) (label_with term_without_offsets) (λ l. refl)
      (λ had. label_law k tag.HlInscription tag.TermStructure fill.Term (codes "hlinscription") (IsSpelledTerm k) term_read term_element term_without_offsets (hl_inscription_row k had) terms) a.inscription refl such.inscription (λ had. some_listed a.inscription (such.has_inscription (slot_had k tag.HlInscription had))) in
      let called : AreCalled (arc_groups a) = (named.0, (named.1, (weight.named, (inscription.named, tt)))) in
      let kids = arc_kids a in
      let head = head_back k says (arc_head k) a.head such.head w (written_named w (arc_groups a) kids called (codes "name") refl) (written_kept w (arc_groups a) kids called) in
      let weight_back = option_field (codes "inscription") w count_label (number_label (codes "inscription")) label_without_offsets a.weight (written_named w (arc_groups a) kids called (codes "inscription") refl) weight.again in
      let inscription_back = option_field (codes "hlinscription") w term_label (label_element (codes "hlinscription") term_element) (label_with term_without_offsets) a.inscription (written_named w (arc_groups a) kids called (codes "hlinscription") refl) inscription.again in (
        shaped_elements k tag.Arc w arc_row.0
            (subst (λ ks. HasShape k says (made (codes "arc") w.attrs ks)) (sym kids)
            (fit_shape k says (codes "arc") w.attrs (arc_groups a) arc_row.0 arc_row.1 (fits.0, (fits.1, (weight.fits, (inscription.fits, tt))))
            (subst (λ rules. AllByRecursion (λ a. attr_fault rules a ≡ None) w.attrs) (sym arc_row.2) (id_fits a.id such.id, (refl, (refl, tt))))
            (subst (AllByRecursion (λ r. lack_fault w.attrs r ≡ None)) (sym arc_row.2) (refl, (refl, (refl, tt)))))),
        λ j. record { id = a.id; head = head j; source = a.source; target = a.target; weight = weight_back j; inscription = inscription_back j; at = 0 },
      )

  pub arc_law : PartLaw k tag.Arc Anything (IsSpellableArc k) arc_read arc_element arc_without_offsets
  arc_law = record { such = λ e a about is alike. arc_such e a is alike; shaped = λ a such. (arc_both a such).0; same = λ a such. (arc_both a such).1 }
