-- The element that is written for a label that was read may stand in a tree, where the element that was read may.
use Rattle.std.proofs.Common.{◌≡◌, ℕ, zero, suc, true, List, [], ◌∷◌, ◌++◌, map, codes, Some, None, refl, sym, ap, subst, ◌∙◌, arith}
use Rattle.std.specs.List.{slice_get}
use Rattle.std.specs.Option.{option_map, unwrap_or}
use Rattle.std.specs.Fmt.{decimal}
use Rattle.pn_text.specs.Characters.{is_name}
use Rattle.pn_operators.specs.declared.kind.Kind.{Kind}
use Rattle.pn_tree.specs.Elements.{is_element}
use Rattle.pn_tree.specs.declared.element.Element.{Element}
use Rattle.pn_tree.specs.declared.element.Child.TheVariants as children
use Rattle.pn_tree.proofs.OpenLemmas.{parts_at}
use Rattle.pn_tree.proofs.TreeLemmas.{Parts, not_element-zero, parts_of}
use Rattle.pn_shape.specs.Faults.{fill_faults, IsShaped}
use Rattle.pn_shape.specs.Rules.{rule_for}
use Rattle.pn_shape.specs.Spots.{has_slot, spot_in, tag_of}
use Rattle.pn_shape.specs.declared.rule.Content.TheVariants as contents
use Rattle.pn_shape.specs.declared.rule.Fill.{Fill}
use Rattle.pn_shape.specs.declared.rule.Fill.TheVariants as fill
use Rattle.pn_shape.specs.declared.rule.Over.TheVariants as over
use Rattle.pn_shape.specs.declared.rule.Slot.{Slot}
use Rattle.pn_shape.specs.declared.search.Spot.{Spot}
use Rattle.pn_shape.specs.declared.tag.Tag.{Tag}
use Rattle.pn_shape.specs.declared.tag.Tag.TheVariants as tag
use Rattle.pn_shape.proofs.PlaceLemmas.{fill_of, one_is}
use Rattle.pn_spelling.specs.Parts.{child_elements, child_named, has_name, own_text}
use Rattle.pn_spelling.specs.ReadDeclarations.{declarations_read}
use Rattle.pn_spelling.specs.ReadNets.{child_or_self, count_label, count_read, declarations_label, head_read, inner_or_self, is_opaque_part, label_read, opaque_parts, sort_label, structured, term_label, text_read}
use Rattle.pn_spelling.specs.ReadSorts.{sort_read}
use Rattle.pn_spelling.specs.ReadTerms.{term_read}
use Rattle.pn_spelling.specs.Writing.{enclosing, text_element}
use Rattle.pn_spelling.specs.WriteDeclarations.{declarations_element}
use Rattle.pn_spelling.specs.WriteNets.{declaration_label, head_kids, kids_of, label_element, name_element, number_label}
use Rattle.pn_spelling.specs.WriteSorts.{sort_element}
use Rattle.pn_spelling.specs.WriteTerms.{term_element}
use Rattle.pn_facts.proofs.Each.{filtered}
use Rattle.pn_round_trip.proofs.WritableDeclarations.{declarations_fit}
use Rattle.pn_round_trip.proofs.WritableParts.{AllFit, around_fits, both_fit, elements_fit, find_is, first_fits, inner_first, inside_fit, kids_of_fit, made_fits, needed_named, needed_one, only_inside, same_tag, text_fits, whole_of}
use Rattle.pn_round_trip.proofs.WritableSorts.{HasSorts, sort_fits, sort_slot}
use Rattle.pn_round_trip.proofs.WritableTerms.{term_fits, term_slot}
use Rattle.pn_round_trip.proofs.WritableTexts.{count_text, joined_text}

-- parts that are kept as they are, and texts

pub opaque_fit : (n : ℕ) (e : Element) → Parts n e → AllFit n (map children.Element (opaque_parts e))
opaque_fit n e p =
    elements_fit n (opaque_parts e)
    (filtered (λ x. is_element n x ≡ true) (λ x. is_element n x ≡ true) is_opaque_part (λ x fits passes. fits) (child_elements e) (inside_fit n e p))

own_text_fits : (n : ℕ) (x : Element) → is_element n x ≡ true → is_element n (text_element (own_text x)) ≡ true
own_text_fits zero x fits = absurd (not_element-zero x fits)
own_text_fits (suc n) x fits = text_fits n (own_text x) (joined_text (is_element n) x.kids (parts_of n x fits).kids)

named_fits : (n : ℕ) (e : Element) (name : List ℕ) (x : Element) → Parts n e → child_named name e ≡ Some x → is_element n x ≡ true
named_fits n e name x p is = (find_is (λ y. is_element n y ≡ true) (has_name name) (child_elements e) x (inside_fit n e p) is).0

text_read_fits : (n : ℕ) (e : Element) → Parts n e → AllFit n (kids_of text_element (text_read e))
text_read_fits n e p = kids_of_fit n text_element own_text (child_named (codes "text") e) (λ x is. own_text_fits n x (named_fits n e (codes "text") x p is))

-- names

name_fits : (n : ℕ) (e : Element) → is_element n e ≡ true → is_element n (name_element (label_read tt e)) ≡ true
name_fits zero e fits = absurd (not_element-zero e fits)
name_fits (suc n) e fits =
    let p = parts_of n e fits in
    made_fits n (codes "name") [] (kids_of text_element (text_read e) ++ map children.Element (opaque_parts e)) refl refl
    (both_fit n (kids_of text_element (text_read e)) (map children.Element (opaque_parts e)) (text_read_fits n e p) (opaque_fit n e p))

-- what any part may have
pub head_fits : (n : ℕ) (e : Element) → Parts n e → AllFit n (head_kids (head_read e))
head_fits n e p =
    both_fit n (kids_of name_element (option_map (label_read tt) (child_named (codes "name") e))) (map children.Element (opaque_parts e))
    (kids_of_fit n name_element (label_read tt) (child_named (codes "name") e) (λ x is. name_fits n x (named_fits n e (codes "name") x p is))) (opaque_fit n e p)

-- labels that have an element

abbrev optional_text : Slot
optional_text = record { fill = fill.One tag.Text; least = 0; most = Some 1; over = over.Repeated }

abbrev opaque_slot : Slot
opaque_slot = record { fill = fill.Opaque; least = 0; most = None; over = over.Repeated }

abbrev label_slots : Tag → List Slot
label_slots inside = optional_text ∷ needed_one (fill.One inside) ∷ opaque_slot ∷ []

structured_is : (e y z : Element) → child_named (codes "structure") e ≡ Some y → child_elements y ≡ z ∷ [] → structured e ≡ z
structured_is e y z first only = ap (λ o. inner_or_self (unwrap_or o e)) first ∙ ap (λ xs. unwrap_or (slice_get xs 0) y) only

-- the label's row, the row of the `structure` in it, and what fills that
record IsLabelRow (k : Kind) (t inside : Tag) (f : Fill) : Type 0 where
  content : (rule_for t).content ≡ contents.Elements
  slots : (rule_for t).slots ≡ label_slots inside
  inside_name : (rule_for inside).name ≡ codes "structure"
  inside_content : (rule_for inside).content ≡ contents.Elements
  inside_slots : (rule_for inside).slots ≡ needed_one f ∷ []
  inside_had : has_slot k (fill.One inside) ≡ true
  had : has_slot k f ≡ true
  tagged : (s : Spot) → spot_in k (codes "structure") 0 (label_slots inside) ≡ Some s → s.tag ≡ inside

structure_fits : (n : ℕ) (k : Kind) (t inside : Tag) (f : Fill) (e : Element) (write : Element → Element) → IsLabelRow k t inside f
    → ((m : ℕ) (z : Element) → is_element m z ≡ true → fill_faults k f z ≡ [] → is_element m (write z) ≡ true) → is_element (suc n) e ≡ true → IsShaped k t e
    → is_element n (enclosing (codes "structure") (write (structured e))) ≡ true
structure_fits n k t inside f e write row again fits shaped =
    let w = whole_of n k t e row.content fits shaped in
    let found = needed_named k (rule_for t) e 1 (needed_one (fill.One inside)) inside w.shape (ap (λ l. slice_get l 1) row.slots) refl row.inside_had (omega arith) in
    let is : child_named (codes "structure") e ≡ Some found.0 = ap (λ m. child_named m e) (sym row.inside_name) ∙ found.1 in
    let i = inner_first n k (rule_for t) e w (codes "structure") found.0 is in
    let same = row.tagged i.spot (ap (spot_in k (codes "structure") 0) (sym row.slots) ∙ i.found) in
    below n found.0 i.fits is (subst (λ u. IsShaped k u found.0) same i.shaped)
  where
    below : (n : ℕ) (y : Element) → is_element n y ≡ true → child_named (codes "structure") e ≡ Some y → IsShaped k inside y → is_element n (enclosing (codes "structure") (write (structured e))) ≡ true
    below zero y fit is shape = absurd (not_element-zero y fit)
    below (suc m) y fit is shape =
        let one = only_inside m k inside y f row.inside_content row.inside_slots row.had fit shape in
        around_fits m (codes "structure") (write (structured e)) refl (ap (λ z. is_element m (write z)) (structured_is e y one.x is one.only) ∙ again m one.x one.fits one.shaped)

label_fits : {T : Type 0} (n : ℕ) (name : List ℕ) (spell : T → Element) (value : T) (e : Element) → is_name name ≡ true → Parts n e → is_element n (enclosing (codes "structure") (spell value)) ≡ true
    → is_element (suc n) (label_element name spell (label_read value e)) ≡ true
label_fits n name spell value e named p inside =
    let texts = kids_of text_element (text_read e) in
    let opaque = map children.Element (opaque_parts e) in
    made_fits n name [] (texts ++ (children.Element (enclosing (codes "structure") (spell value)) ∷ opaque)) named refl
    (both_fit n texts (children.Element (enclosing (codes "structure") (spell value)) ∷ opaque) (text_read_fits n e p) (first_fits n (enclosing (codes "structure") (spell value)) opaque inside (opaque_fit n e p)))

sort_row : (k : Kind) → HasSorts k → IsLabelRow k tag.Type tag.SortStructure fill.Sort
unfolding rule_for tag_of spot_in has_slot
sort_row k had = record {
  content = refl;
  slots = refl;
  inside_name = refl;
  inside_content = refl;
  inside_slots = refl;
  inside_had = refl;
  had = sort_slot k had;
  tagged = λ s is. same_tag 1 tag.SortStructure s is;
}

-- the row of a label that says a term
abbrev pub IsTermLabel : Tag → Type 0
IsTermLabel t = ((rule_for t).content ≡ contents.Elements) × ((rule_for t).slots ≡ label_slots tag.TermStructure)

term_row : (k : Kind) (t : Tag) → HasSorts k → IsTermLabel t → IsLabelRow k t tag.TermStructure fill.Term
unfolding rule_for tag_of spot_in has_slot
term_row k t had is = record {
  content = is.0;
  slots = is.1;
  inside_name = refl;
  inside_content = refl;
  inside_slots = refl;
  inside_had = refl;
  had = term_slot k had;
  tagged = λ s found. same_tag 1 tag.TermStructure s found;
}

pub marking_term : IsTermLabel tag.HlInitialMarking
unfolding rule_for
marking_term = (refl, refl)

pub inscription_term : IsTermLabel tag.HlInscription
unfolding rule_for
inscription_term = (refl, refl)

pub condition_term : IsTermLabel tag.Condition
unfolding rule_for
condition_term = (refl, refl)

declaration_row : (k : Kind) → IsLabelRow k tag.Declaration tag.DeclarationStructure (fill.One tag.Declarations)
unfolding rule_for tag_of spot_in has_slot
declaration_row k = record {
  content = refl;
  slots = refl;
  inside_name = refl;
  inside_content = refl;
  inside_slots = refl;
  inside_had = refl;
  had = refl;
  tagged = λ s is. same_tag 1 tag.DeclarationStructure s is;
}

pub sort_label_fits : (n : ℕ) (k : Kind) (e : Element) → HasSorts k → is_element n e ≡ true → IsShaped k tag.Type e → is_element n (label_element (codes "type") sort_element (sort_label e)) ≡ true
sort_label_fits zero k e had fits shaped = absurd (not_element-zero e fits)
sort_label_fits (suc n) k e had fits shaped =
    label_fits n (codes "type") sort_element (sort_read (structured e)) e refl (parts_of n e fits)
    (structure_fits n k tag.Type tag.SortStructure fill.Sort e (λ z. sort_element (sort_read z)) (sort_row k had) (λ m z fit is. sort_fits m k had z fit is) fits shaped)

pub term_label_fits : (n : ℕ) (k : Kind) (t : Tag) (name : List ℕ) (e : Element) → HasSorts k → IsTermLabel t → is_name name ≡ true → is_element n e ≡ true → IsShaped k t e
    → is_element n (label_element name term_element (term_label e)) ≡ true
term_label_fits zero k t name e had row named fits shaped = absurd (not_element-zero e fits)
term_label_fits (suc n) k t name e had row named fits shaped =
    label_fits n name term_element (term_read (structured e)) e named (parts_of n e fits)
    (structure_fits n k t tag.TermStructure fill.Term e (λ z. term_element (term_read z)) (term_row k t had row) (λ m z fit is. term_fits m k had z fit is) fits shaped)

declarations_again : (k : Kind) → HasSorts k → (m : ℕ) (z : Element) → is_element m z ≡ true → fill_faults k (fill.One tag.Declarations) z ≡ [] → is_element m (declarations_element (declarations_read z)) ≡ true
declarations_again k had m z fit is =
    let t = fill_of k (fill.One tag.Declarations) z is in declarations_fit m k had z fit (subst (λ u. IsShaped k u z) (one_is k z.name tag.Declarations t.0 t.1) t.2)

pub declarations_label_fits : (n : ℕ) (k : Kind) (e : Element) → HasSorts k → is_element n e ≡ true → IsShaped k tag.Declaration e → is_element n (declaration_label (declarations_label e)) ≡ true
declarations_label_fits zero k e had fits shaped = absurd (not_element-zero e fits)
declarations_label_fits (suc n) k e had fits shaped =
    label_fits n (codes "declaration") declarations_element (declarations_read (structured e)) e refl (parts_of n e fits)
    (structure_fits n k tag.Declaration tag.DeclarationStructure (fill.One tag.Declarations) e (λ z. declarations_element (declarations_read z)) (declaration_row k) (declarations_again k had) fits shaped)

-- labels that say a number

abbrev number_slots : Tag → List Slot
number_slots inside = needed_one (fill.One inside) ∷ opaque_slot ∷ []

-- the row of a label that says a number, with the `text` in it
abbrev pub IsNumberLabel : Kind → Tag → Tag → Type 0
IsNumberLabel k t inside =
    ((rule_for t).content ≡ contents.Elements) × ((rule_for t).slots ≡ number_slots inside) × (has_slot k (fill.One inside) ≡ true)

pub marking_number : (k : Kind) → IsNumberLabel k tag.InitialMarking tag.MarkingText
unfolding rule_for has_slot
marking_number k = (refl, refl, refl)

pub inscription_number : (k : Kind) → IsNumberLabel k tag.Inscription tag.WeightText
unfolding rule_for has_slot
inscription_number k = (refl, refl, refl)

pub number_label_fits : (n : ℕ) (k : Kind) (t inside : Tag) (name : List ℕ) (e : Element) → IsNumberLabel k t inside → is_name name ≡ true → is_element n e ≡ true → IsShaped k t e
    → is_element n (number_label name (count_label e)) ≡ true
number_label_fits zero k t inside name e row named fits shaped = absurd (not_element-zero e fits)
number_label_fits (suc n) k t inside name e row named fits shaped =
    let p = parts_of n e fits in
    let number = decimal (count_read (child_or_self (codes "text") e)) in
    let w = whole_of n k t e row.0 fits shaped in
    let found = needed_named k (rule_for t) e 0 (needed_one (fill.One inside)) inside w.shape (ap (λ l. slice_get l 0) row.1) refl row.2 (omega arith) in
    let there = parts_at n found.0 (named_fits n e (rule_for inside).name found.0 p found.1) in
    let text : is_element n (text_element number) ≡ true =
    subst (λ m. is_element m (text_element number) ≡ true) (sym there.1) (text_fits there.0 number (count_text (own_text (child_or_self (codes "text") e)))) in
    made_fits n name [] (children.Element (text_element number) ∷ map children.Element (opaque_parts e)) named refl
    (first_fits n (text_element number) (map children.Element (opaque_parts e)) text (opaque_fit n e p))
