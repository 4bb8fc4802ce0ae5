-- Labels that, offsets aside, elements without a fault of shape spell: they are written without one, and read back.
use Rattle.std.proofs.Common.{◌≡◌, ℕ, ◌-◌, ◌^◌, ◌≤◌, true, nat_le, List, [], ◌∷◌, ◌++◌, append-nil, map, codes, Option, Some, None, IfSome, refl, sym, ap, subst, ◌∙◌, arith}
use Rattle.std.specs.Prelude.{decimal, option_to_list}
use Rattle.std.specs.List.{slice_get, slice_index_or, AllByRecursion}
use Rattle.std.specs.Option.{option_map, unwrap_or}
use Rattle.std.proofs.lemmas.Bool.Decides.{nat_tests}
use Rattle.std.proofs.lemmas.List.{map-append}
use Rattle.pn_faults.specs.declared.reason.Reason.TheVariants as reason
use Rattle.pn_operators.specs.declared.kind.Kind.{Kind}
use Rattle.pn_objects.specs.declared.label.Label.{Label}
use Rattle.pn_objects.specs.Offsets.{label_without_offsets, label_with}
use Rattle.pn_markup.specs.Offsets.{without_offsets}
use Rattle.pn_tree.specs.declared.element.Element.{Element}
use Rattle.pn_tree.specs.declared.element.Child.TheVariants as children
use Rattle.pn_shape.specs.Attributes.{unless, lack_fault}
use Rattle.pn_shape.specs.Faults.{fill_faults, is_count, is_opaque, kind_inside, no_slot, stray_fault, text_fault, IsShaped}
use Rattle.pn_shape.specs.Numbers.{behind_space, count_in}
use Rattle.pn_shape.specs.Rules.{Saying, rule_for, slot_of, is_had}
use Rattle.pn_shape.specs.Shaped.{HasShape, IsPlaced}
use Rattle.pn_shape.specs.Spots.{filled, has_slot, spot_at, spot_in, tag_of}
use Rattle.pn_shape.specs.declared.rule.Content.TheVariants as contents
use Rattle.pn_shape.specs.declared.rule.Fill.{Fill}
use Rattle.pn_shape.specs.declared.rule.Fill.TheVariants as fill
use Rattle.pn_shape.specs.declared.rule.Over.TheVariants as over
use Rattle.pn_shape.specs.declared.rule.Slot.{Slot}
use Rattle.pn_shape.specs.declared.tag.Tag.{Tag}
use Rattle.pn_shape.specs.declared.tag.Tag.TheVariants as tag
use Rattle.pn_shape.proofs.AttrLemmas.{count_there}
use Rattle.pn_shape.proofs.DecimalLemmas.{count_decimal}
use Rattle.pn_shape.proofs.PlaceLemmas.{fill_of, placed_text}
use Rattle.pn_shape.proofs.ShapedLemmas.{of_shape, shape_of}
use Rattle.pn_shape.proofs.WrittenLemmas.{as_kids, one_text, right}
use Rattle.pn_spelling.specs.Parts.{child_elements, children_named, has_name, own_text}
use Rattle.pn_spelling.specs.ReadNets.{child_or_self, count_label, count_read, inner_or_self, label_read, opaque_parts, structured, text_read}
use Rattle.pn_spelling.specs.WriteNets.{label_element, name_element, number_label}
use Rattle.pn_spelling.specs.Writing.{enclosing, made, text_element, text_kids}
use Rattle.pn_round_trip.proofs.KidLemmas.{elements_again, elements_shape, shaped_elements, spot_first, the_only}
use Rattle.pn_round_trip.proofs.NumberLemmas.{numeral_within}
use Rattle.pn_round_trip.proofs.GroupNetLaws.{Group, AreCalled, fit_shape, members_of}
use Rattle.pn_round_trip.proofs.PartNetLaws.{PartLaw, NamedPlace, OpaquePlace, every_one, find_written, option_group_is, kept_called, kept_fits, kids_of_is, option_again, required_there, written_named, written_kept, IsGroup, option_such}
use Rattle.pn_round_trip.specs.Spellable.{IsCountFrom, IsCountLabel, IsHadWith, IsSpellableLabel, IsSpellableName}

-- texts

abbrev pub Anything : Element → Type 0
Anything e = Unit {0}

pub text_again : (t : List ℕ) → own_text (text_element t) ≡ t
text_again [] = refl
text_again (b ∷ bs) = one_text (b ∷ bs) ∙ append-nil (b ∷ bs)

text_shape : (k : Kind) (says : Saying) (t : List ℕ) → says.slots ≡ [] → says.attrs ≡ [] → text_fault says.content t ≡ None → stray_fault says.content t ≡ None → HasShape k says (text_element t)
text_shape k says t slots attrs text stray = record {
  attrs = tt;
  lacks = subst (AllByRecursion (λ r. lack_fault [] r ≡ None)) (sym attrs) tt;
  text = ap (text_fault says.content) (text_again t) ∙ text;
  kids = placed t stray;
  most = λ i. subst (λ all. IfSome (slice_index_or all i no_slot).most (λ most. filled k all i (text_kids t) ≤ most)) (sym slots) tt;
  least = λ i s is had. absurd (let none : None ≡ Some s = ap (λ all. slice_get all i) (sym slots) ∙ is in cc);
}
  where
    placed : (t : List ℕ) → stray_fault says.content t ≡ None → AllByRecursion (IsPlaced k says) (text_kids t)
    placed [] stray = tt
    placed (b ∷ bs) stray = (placed_text k says (b ∷ bs) stray, tt)

text_row : (k : Kind) → ((rule_for tag.Text).content ≡ contents.Characters) × ((rule_for tag.Text).slots ≡ []) × ((rule_for tag.Text).attrs ≡ []) × (is_had k tag.Text ≡ true)
unfolding rule_for
text_row k = (refl, refl, refl, refl)

pub text_law : (k : Kind) → PartLaw k tag.Text Anything (λ t. Unit {0}) own_text text_element (λ t. t)
unfolding rule_for
text_law k = record {
  such = λ e t about is alike. tt;
  shaped = λ t such. of_shape k k tag.Text (text_element t) refl refl (text_shape k (rule_for tag.Text) t refl refl refl refl);
  same = λ t such. text_again t;
}

-- numbers

pub count_law : (k : Kind) (t : Tag) (least : ℕ) → (rule_for t).content ≡ contents.Count least → (rule_for t).slots ≡ [] → (rule_for t).attrs ≡ []
    → PartLaw k t Anything (IsCountFrom least) count_read (λ n. text_element (decimal n)) (λ n. n)
count_law k t least content slots attrs = record {
  such = λ e n about is alike. number e n is alike;
  shaped = λ n such. of_shape k k t (text_element (decimal n)) (ap is_opaque content) (ap (λ c. kind_inside k c []) content)
      (text_shape k (rule_for t) (decimal n) slots attrs (ap (λ c. text_fault c (decimal n)) content ∙ counts n such) (ap (λ c. stray_fault c (decimal n)) content));
  same = λ n such. ap (λ o. unwrap_or o 0) (ap count_in (text_again (decimal n)) ∙ count_decimal n such.1);
}
  where
    number : (e : Element) (n : ℕ) → IsShaped k t e → n ≡ count_read e → IsCountFrom least n
    number e n is alike =
        let shape = shape_of k k t e (ap is_opaque content) (ap (λ c. kind_inside k c e.attrs) content) is in
        let there = count_there least (own_text e) (ap (λ c. text_fault c (own_text e)) (sym content) ∙ shape.text) in
        let same : n ≡ there.0 = alike ∙ ap (λ o. unwrap_or o 0) there.1 in
        let most = numeral_within (2 ^ 63 - 1) there.0 (behind_space (own_text e)) there.1 in
        (omega (arith, same, there.2), omega (arith, same, most))

    counts : (n : ℕ) → IsCountFrom least n → text_fault (contents.Count least) (decimal n) ≡ None
    counts n such =
        let le = such.0 in
        let enough : nat_le least n ≡ true = grind (arith, nat_tests) in
        ap (λ o. unless (is_count least o) reason.BadNumber) (count_decimal n such.1) ∙ right (nat_le least n) reason.BadNumber enough

-- labels

abbrev pub opaque_slot : Slot
opaque_slot = record { fill = fill.Opaque; least = 0; most = None; over = over.Repeated }

abbrev pub bare_label : {T : Type 0} → T → Option (List ℕ) → List Element → Label T
bare_label v t o = record { value = v; text = t; opaque = o; at = 0 }

pub same_label : {T : Type 0} (v v' : T) (t t' : Option (List ℕ)) (o o' : List Element) → v ≡ v' → t ≡ t' → o ≡ o' → bare_label v t o ≡ bare_label v' t' o'
same_label v v' t t' o o' ev et eo = λ j. bare_label (ev j) (et j) (eo j)

pub some_same : {A : Type 0} (a s : A) → Some a ≡ Some s → s ≡ a
some_same a s is = cc

option_same : {A : Type 0} (o : Option A) → option_map (λ a. a) o ≡ o
option_same None = refl
option_same (Some a) = refl

-- a label that says a number
pub record CountRow (k : Kind) (lt tx : Tag) : Type 0 where
  pub content : (rule_for lt).content ≡ contents.Elements
  pub slots : (rule_for lt).slots ≡ slot_of tx 1 (Some 1) ∷ opaque_slot ∷ []
  pub attrs : (rule_for lt).attrs ≡ []
  pub text : NamedPlace k (rule_for lt) 0 (codes "text") tx (slot_of tx 1 (Some 1))
  pub kept : OpaquePlace k (rule_for lt) 1 opaque_slot
  pub has_text : has_slot k (fill.One tx) ≡ true
  pub had : is_had k tx ≡ true

module _ (k : Kind) (lt tx : Tag) (least : ℕ) (name : List ℕ) (row : CountRow k lt tx) (law : PartLaw k tx Anything (IsCountFrom least) count_read (λ n. text_element (decimal n)) (λ n. n)) where
  abbrev count_groups : Label ℕ → List Group
  count_groups l = record { slot = slot_of tx 1 (Some 1); called = Some (codes "text"); members = text_element (decimal l.value) ∷ [] } ∷ record { slot = opaque_slot; called = None; members = l.opaque } ∷ []

  count_kids : (l : Label ℕ) → (number_label name l).kids ≡ as_kids (members_of (count_groups l))
  count_kids l = ap (λ os. children.Element (text_element (decimal l.value)) ∷ as_kids os) (sym (append-nil l.opaque))

  count_such : (e : Element) (l : Label ℕ) → IsShaped k lt e → label_without_offsets l ≡ label_without_offsets (count_label e) → IsCountLabel least l
  count_such e l is alike =
      let shape = elements_shape k lt e row.content is in
      let text = required_there k (rule_for lt) 0 (codes "text") tx (slot_of tx 1 (Some 1)) row.text e refl row.has_text shape in
      let value = ap Some (ap (λ (x : Label ℕ). x.value) alike ∙ ap (λ o. count_read (unwrap_or o e)) text.1) ∙ sym (ap (option_map count_read) text.1) in
      record {
        value = (option_such k (rule_for lt) 0 (codes "text") tx (slot_of tx 1 (Some 1)) row.text Anything (IsCountFrom least) count_read (λ n. text_element (decimal n)) (λ n. n) (λ n. refl) (λ had. law) e (Some l.value) refl shape
            (every_one (children_named (codes "text") e)) (ap (option_map (λ n. n)) value)).0.1;
        text = ap (λ (x : Label ℕ). x.text) alike;
        opaque = kept_called e l.opaque (ap (λ (x : Label ℕ). x.opaque) alike);
      }

  module _ (l : Label ℕ) (such : IsCountLabel least l) where
    count_group : IsGroup k (rule_for lt) 0 (codes "text") tx (slot_of tx 1 (Some 1)) row.text Anything (IsCountFrom least) count_read (λ n. text_element (decimal n)) (λ n. n) (λ n. refl) (λ had. law) (l.value ∷ [])
    count_group =
        option_group_is k (rule_for lt) 0 (codes "text") tx (slot_of tx 1 (Some 1)) row.text Anything (IsCountFrom least) count_read (λ n. text_element (decimal n)) (λ n. n) (λ n. refl) (λ had. law)
        (Some l.value) refl (row.had, such.value) (λ had. omega arith)

    count_called : AreCalled (count_groups l)
    count_called = (count_group.named, (such.opaque, tt))

    count_shaped : IsShaped k lt (number_label name l)
    count_shaped =
        shaped_elements k lt (number_label name l) row.content
        (subst (λ ks. HasShape k (rule_for lt) (made name [] ks)) (sym (count_kids l))
        (fit_shape k (rule_for lt) name [] (count_groups l) row.content row.slots (count_group.fits, (kept_fits k (rule_for lt) 1 opaque_slot row.kept l.opaque such.opaque, tt)) tt
        (subst (AllByRecursion (λ r. lack_fault [] r ≡ None)) (sym row.attrs) tt)))

    count_back : label_without_offsets (count_label (number_label name l)) ≡ label_without_offsets l
    count_back =
        let w = number_label name l in
        let text = find_written (has_name (codes "text")) (λ n. text_element (decimal n)) (Some l.value) (child_elements w) (written_named w (count_groups l) (count_kids l) count_called (codes "text") refl) in
        let kept = written_kept w (count_groups l) (count_kids l) count_called ∙ append-nil l.opaque in
        let again = count_group.again in
        let value : count_read (text_element (decimal l.value)) ≡ l.value = cc in
        same_label (count_read (child_or_self (codes "text") w)) l.value None l.text (map without_offsets (opaque_parts w)) (map without_offsets l.opaque)
        (ap (λ o. count_read (unwrap_or o w)) text ∙ value) (sym such.text) (ap (map without_offsets) kept)

  pub count_label_law : PartLaw k lt Anything (IsCountLabel least) count_label (number_label name) label_without_offsets
  count_label_law = record { such = λ e l about is alike. count_such e l is alike; shaped = count_shaped; same = count_back }

-- the text that a label may have

module _ (k : Kind) (says : Saying) (text : NamedPlace k says 0 (codes "text") tag.Text (slot_of tag.Text 0 (Some 1))) (o : Option (List ℕ)) where
  abbrev text_members : List Element
  text_members = map text_element (option_to_list o)

  any_text : IfSome o (IsHadWith k tag.Text (λ t. Unit {0}))
  any_text = by o
    where
      by : (o : Option (List ℕ)) → IfSome o (IsHadWith k tag.Text (λ t. Unit {0}))
      by None = tt
      by (Some t) = ((text_row k).3, tt)

  text_group : IsGroup k says 0 (codes "text") tag.Text (slot_of tag.Text 0 (Some 1)) text Anything (λ t. Unit {0}) own_text text_element (λ t. t) (λ t. refl) (λ had. text_law k) (option_to_list o)
  text_group = option_group_is k says 0 (codes "text") tag.Text (slot_of tag.Text 0 (Some 1)) text Anything (λ t. Unit {0}) own_text text_element (λ t. t) (λ t. refl) (λ had. text_law k) o refl any_text (λ had. omega arith)

  -- it reads back from what was written for it
  text_back : (w : Element) → children_named (codes "text") w ≡ text_members → text_read w ≡ o
  text_back w is =
      ap (option_map own_text) (find_written (has_name (codes "text")) text_element o (child_elements w) is)
      ∙ sym (option_same (option_map own_text (option_map text_element o)))
      ∙ option_again own_text text_element (λ t. t) o text_group.again ∙ option_same o

-- names

name_text : (k : Kind) → NamedPlace k (rule_for tag.Name) 0 (codes "text") tag.Text (slot_of tag.Text 0 (Some 1))
unfolding rule_for spot_in tag_of
name_text k = record { at = refl; here = refl; fills = refl; row = refl; spot = λ s h. some_same (spot_at 0 tag.Text) s h; there = λ had. refl }

name_kept : (k : Kind) → OpaquePlace k (rule_for tag.Name) 1 opaque_slot
unfolding rule_for spot_in tag_of
name_kept k = record { most = refl; least = refl; graphics = refl; toolspecific = refl }

name_row : ((rule_for tag.Name).content ≡ contents.Elements) × ((rule_for tag.Name).slots ≡ slot_of tag.Text 0 (Some 1) ∷ opaque_slot ∷ []) × ((rule_for tag.Name).attrs ≡ [])
unfolding rule_for
name_row = (refl, refl, refl)

abbrev name_groups : Label (Unit {0}) → List Group
name_groups l = record { slot = slot_of tag.Text 0 (Some 1); called = Some (codes "text"); members = map text_element (option_to_list l.text) } ∷ record { slot = opaque_slot; called = None; members = l.opaque } ∷ []

name_kids : (l : Label (Unit {0})) → (name_element l).kids ≡ as_kids (members_of (name_groups l))
name_kids l =
    let texts = map text_element (option_to_list l.text) in
    ap (λ ks. ks ++ as_kids l.opaque) (kids_of_is text_element l.text) ∙ sym (map-append children.Element texts l.opaque) ∙ ap (λ os. as_kids (texts ++ os)) (sym (append-nil l.opaque))

module _ (k : Kind) (l : Label (Unit {0})) (such : IsSpellableName l) where
  name_called : AreCalled (name_groups l)
  name_called = ((text_group k (rule_for tag.Name) (name_text k) l.text).named, (such, tt))

  name_shaped : IsShaped k tag.Name (name_element l)
  name_shaped =
      shaped_elements k tag.Name (name_element l) name_row.0
      (subst (λ ks. HasShape k (rule_for tag.Name) (made (codes "name") [] ks)) (sym (name_kids l))
      (fit_shape k (rule_for tag.Name) (codes "name") [] (name_groups l) name_row.0 name_row.1
      ((text_group k (rule_for tag.Name) (name_text k) l.text).fits, (kept_fits k (rule_for tag.Name) 1 opaque_slot (name_kept k) l.opaque such, tt)) tt
      (subst (AllByRecursion (λ r. lack_fault [] r ≡ None)) (sym name_row.2) tt)))

  name_back : label_without_offsets (label_read tt (name_element l)) ≡ label_without_offsets l
  name_back =
      let w = name_element l in
      same_label tt l.value (text_read w) l.text (map without_offsets (opaque_parts w)) (map without_offsets l.opaque) refl
      (text_back k (rule_for tag.Name) (name_text k) l.text w
      (written_named w (name_groups l) (name_kids l) name_called (codes "text") refl ∙ append-nil (map text_element (option_to_list l.text))))
      (ap (map without_offsets) (written_kept w (name_groups l) (name_kids l) name_called ∙ append-nil l.opaque))

pub name_law : (k : Kind) → PartLaw k tag.Name Anything IsSpellableName (label_read tt) name_element label_without_offsets
name_law k = record {
  such = λ e l about is alike. kept_called e l.opaque (ap (λ (x : Label (Unit {0})). x.opaque) alike);
  shaped = name_shaped k;
  same = name_back k;
}

-- labels with a `structure`

-- what is, offsets aside, what an element spells that fills a place is such a thing; such a thing is written as an element that fills it, and reads back as the same
pub record FillLaw {T : Type 0} (k : Kind) (f : Fill) (IsSuch : T → Type 0) (read : Element → T) (spell : T → Element) (clear : T → T) : Type 0 where
  pub such : (e : Element) (x : T) → fill_faults k f e ≡ [] → clear x ≡ clear (read e) → IsSuch x
  pub shaped : (x : T) → IsSuch x → fill_faults k f (spell x) ≡ []
  pub same : (x : T) → IsSuch x → clear (read (spell x)) ≡ clear x

abbrev pub inner_slot : Fill → Slot
inner_slot f = record { fill = f; least = 1; most = Some 1; over = over.Repeated }

pub record LabelRow (k : Kind) (lt st : Tag) (f : Fill) : Type 0 where
  pub content : (rule_for lt).content ≡ contents.Elements
  pub slots : (rule_for lt).slots ≡ slot_of tag.Text 0 (Some 1) ∷ slot_of st 1 (Some 1) ∷ opaque_slot ∷ []
  pub attrs : (rule_for lt).attrs ≡ []
  pub text : NamedPlace k (rule_for lt) 0 (codes "text") tag.Text (slot_of tag.Text 0 (Some 1))
  pub structure : NamedPlace k (rule_for lt) 1 (codes "structure") st (slot_of st 1 (Some 1))
  pub kept : OpaquePlace k (rule_for lt) 2 opaque_slot
  pub inner_content : (rule_for st).content ≡ contents.Elements
  pub inner_slots : (rule_for st).slots ≡ inner_slot f ∷ []
  pub inner_attrs : (rule_for st).attrs ≡ []
  pub has_structure : has_slot k (fill.One st) ≡ true
  pub has_inner : has_slot k f ≡ true
  pub had : is_had k st ≡ true

module _ {T : Type 0} (k : Kind) (lt st : Tag) (f : Fill) (name : List ℕ) (IsSuch : T → Type 0) (read : Element → T) (spell : T → Element) (clear : T → T) (row : LabelRow k lt st f)
    (law : FillLaw k f IsSuch read spell clear) where
  abbrev structure_of : T → Element
  structure_of x = enclosing (codes "structure") (spell x)

  inner_such : (e : Element) (x : T) → IsShaped k st e → clear x ≡ clear (read (inner_or_self e)) → IsSuch x
  inner_such e x is alike =
      let inner = the_only k (rule_for st) (inner_slot f) row.inner_slots e refl refl row.has_inner (elements_shape k st e row.inner_content is) in
      law.such inner.0 x inner.2 (alike ∙ ap (λ es. clear (read (unwrap_or (slice_get es 0) e))) inner.1)

  inner_shaped : (x : T) → IsSuch x → IsShaped k st (structure_of x)
  inner_shaped x such =
      let tagged = fill_of k f (spell x) (law.shaped x such) in
      shaped_elements k st (structure_of x) row.inner_content
      (fit_shape k (rule_for st) (codes "structure") [] (record { slot = inner_slot f; called = None; members = spell x ∷ [] } ∷ []) row.inner_content row.inner_slots (
        record {
          stands = ((spot_at 0 tagged.0, ap (spot_in k (spell x).name 0) row.inner_slots ∙ spot_first k (inner_slot f) [] (spell x).name tagged.0 tagged.1, refl, tagged.2), tt);
          most = omega arith;
          least = λ had. omega arith;
        },
        tt,
      )
      tt (subst (AllByRecursion (λ r. lack_fault [] r ≡ None)) (sym row.inner_attrs) tt))

  inner_back : (x : T) → IsSuch x → clear (read (inner_or_self (structure_of x))) ≡ clear x
  inner_back x such = ap (λ es. clear (read (unwrap_or (slice_get es 0) (structure_of x)))) (elements_again (spell x ∷ [])) ∙ law.same x such

  structure_law : PartLaw k st Anything IsSuch (λ e. read (inner_or_self e)) structure_of clear
  structure_law = record { such = λ e x about is alike. inner_such e x is alike; shaped = inner_shaped; same = inner_back }

  abbrev label_groups : Label T → List Group
  label_groups l =
      record { slot = slot_of tag.Text 0 (Some 1); called = Some (codes "text"); members = map text_element (option_to_list l.text) }
      ∷ record { slot = slot_of st 1 (Some 1); called = Some (codes "structure"); members = structure_of l.value ∷ [] }
      ∷ record { slot = opaque_slot; called = None; members = l.opaque } ∷ []

  label_kids : (l : Label T) → (label_element name spell l).kids ≡ as_kids (members_of (label_groups l))
  label_kids l =
      let texts = map text_element (option_to_list l.text) in
      let rest = structure_of l.value ∷ l.opaque in
      ap (λ ks. ks ++ as_kids rest) (kids_of_is text_element l.text) ∙ sym (map-append children.Element texts rest)
      ∙ ap (λ os. as_kids (texts ++ (structure_of l.value ∷ os))) (sym (append-nil l.opaque))

  abbrev said : Element → Label T
  said e = label_read (read (structured e)) e

  label_such : (e : Element) (l : Label T) → IsShaped k lt e → label_with clear l ≡ label_with clear (said e) → IsSpellableLabel IsSuch l
  label_such e l is alike =
      let shape = elements_shape k lt e row.content is in
      let structure = required_there k (rule_for lt) 1 (codes "structure") st (slot_of st 1 (Some 1)) row.structure e refl row.has_structure shape in
      let value = ap Some (ap (λ (x : Label T). x.value) alike ∙ ap (λ o. clear (read (inner_or_self (unwrap_or o e)))) structure.1)
      ∙ sym (ap (λ o. option_map clear (option_map (λ e. read (inner_or_self e)) o)) structure.1) in
      record {
        value = (option_such k (rule_for lt) 1 (codes "structure") st (slot_of st 1 (Some 1)) row.structure Anything IsSuch (λ e. read (inner_or_self e)) structure_of clear (λ x. refl) (λ had. structure_law) e (Some l.value) refl
            shape (every_one (children_named (codes "structure") e)) value).0.1;
        opaque = kept_called e l.opaque (ap (λ (x : Label T). x.opaque) alike);
      }

  module _ (l : Label T) (such : IsSpellableLabel IsSuch l) where
    structure_group : IsGroup k (rule_for lt) 1 (codes "structure") st (slot_of st 1 (Some 1)) row.structure Anything IsSuch (λ e. read (inner_or_self e)) structure_of clear (λ x. refl) (λ had. structure_law) (l.value ∷ [])
    structure_group =
        option_group_is k (rule_for lt) 1 (codes "structure") st (slot_of st 1 (Some 1)) row.structure Anything IsSuch (λ e. read (inner_or_self e)) structure_of clear (λ x. refl) (λ had. structure_law) (Some l.value) refl
        (row.had, such.value) (λ had. omega arith)

    label_called : AreCalled (label_groups l)
    label_called = ((text_group k (rule_for lt) row.text l.text).named, (structure_group.named, (such.opaque, tt)))

    label_shaped : IsShaped k lt (label_element name spell l)
    label_shaped =
        shaped_elements k lt (label_element name spell l) row.content
        (subst (λ ks. HasShape k (rule_for lt) (made name [] ks)) (sym (label_kids l))
        (fit_shape k (rule_for lt) name [] (label_groups l) row.content row.slots
        ((text_group k (rule_for lt) row.text l.text).fits, (structure_group.fits, (kept_fits k (rule_for lt) 2 opaque_slot row.kept l.opaque such.opaque, tt))) tt
        (subst (AllByRecursion (λ r. lack_fault [] r ≡ None)) (sym row.attrs) tt)))

    label_back : label_with clear (said (label_element name spell l)) ≡ label_with clear l
    label_back =
        let w = label_element name spell l in
        let structures = find_written (has_name (codes "structure")) structure_of (Some l.value) (child_elements w) (written_named w (label_groups l) (label_kids l) label_called (codes "structure") refl) in
        let again = structure_group.again in
        let value : clear (read (inner_or_self (structure_of l.value))) ≡ clear l.value = cc in
        same_label (clear (read (structured w))) (clear l.value) (text_read w) l.text (map without_offsets (opaque_parts w)) (map without_offsets l.opaque)
        (ap (λ o. clear (read (inner_or_self (unwrap_or o w)))) structures ∙ value)
        (text_back k (rule_for lt) row.text l.text w
        (written_named w (label_groups l) (label_kids l) label_called (codes "text") refl ∙ append-nil (map text_element (option_to_list l.text))))
        (ap (map without_offsets) (written_kept w (label_groups l) (label_kids l) label_called ∙ append-nil l.opaque))

  pub label_law : PartLaw k lt Anything (IsSpellableLabel IsSuch) said (label_element name spell) (label_with clear)
  label_law = record { such = λ e l about is alike. label_such e l is alike; shaped = label_shaped; same = label_back }
