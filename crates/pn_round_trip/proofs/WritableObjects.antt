-- The element that is written for an object that was read may stand in a tree, where the element that was read may.
use Rattle.std.proofs.Common.{◌≡◌, ℕ, zero, suc, true, ◌&&◌, List, [], ◌∷◌, ◌++◌, codes, Some, None, refl, subst}
use Rattle.std.specs.Option.{option_map}
use Rattle.pn_facts.proofs.Truths.{and_both}
use Rattle.pn_text.specs.Characters.{is_name, is_text}
use Rattle.pn_operators.specs.declared.kind.Kind.{Kind}
use Rattle.pn_operators.specs.declared.kind.Kind.TheVariants as kind
use Rattle.pn_tree.specs.Elements.{are_attrs, is_element}
use Rattle.pn_tree.specs.declared.element.Element.{Element}
use Rattle.pn_tree.proofs.TreeLemmas.{Parts, not_element-zero, parts_of}
use Rattle.pn_shape.specs.Faults.{IsShaped}
use Rattle.pn_shape.specs.Rules.{rule_for}
use Rattle.pn_shape.specs.Spots.{spot_in, tag_of}
use Rattle.pn_shape.specs.declared.search.Spot.{Spot}
use Rattle.pn_shape.specs.declared.tag.Tag.{Tag}
use Rattle.pn_shape.specs.declared.tag.Tag.TheVariants as tag
use Rattle.pn_spelling.specs.Parts.{attribute_of, child_named}
use Rattle.pn_spelling.specs.ReadNets.{arc_read, count_label, head_read, place_read, reference_read, sort_label, term_label, transition_read}
use Rattle.pn_spelling.specs.Writing.{attribute}
use Rattle.pn_spelling.specs.WriteNets.{arc_element, head_kids, id_attr, kids_of, label_element, number_label, place_element, reference_element, transition_element}
use Rattle.pn_spelling.specs.WriteSorts.{sort_element}
use Rattle.pn_spelling.specs.WriteTerms.{term_element}
use Rattle.pn_round_trip.proofs.WritableLabels.{condition_term, head_fits, inscription_number, inscription_term, marking_number, marking_term, number_label_fits, sort_label_fits, term_label_fits}
use Rattle.pn_round_trip.proofs.WritableParts.{AllFit, IsSoundElement, both_fit, inner_first, kids_of_fit, made_fits, same_tag, value_attrs, whole_of}
use Rattle.pn_round_trip.proofs.WritableSorts.{HasSorts}
use Rattle.pn_round_trip.proofs.WritableTexts.{given_text}

-- an attribute of what was read
pub given : (n : ℕ) (name : List ℕ) (e : Element) → Parts n e → is_text (attribute_of name e) ≡ true
given n name e p = given_text name e.attrs p.attrs

pub id_right : (n : ℕ) (e : Element) → Parts n e → are_attrs (id_attr (attribute_of (codes "id") e) ∷ []) ≡ true
id_right n e p = value_attrs (codes "id") (attribute_of (codes "id") e) refl (given n (codes "id") e p)

-- which element a label is

abbrev pub HasTag : Kind → Tag → Spot → Type 0
HasTag k t s = HasSorts k × (s.tag ≡ t)

marking_tag : (k : Kind) (s : Spot) → spot_in k (codes "initialMarking") 0 (rule_for tag.Place).slots ≡ Some s → s.tag ≡ tag.InitialMarking
unfolding rule_for tag_of spot_in
marking_tag kind.PtNet s is = same_tag 2 tag.InitialMarking s is
marking_tag kind.Symmetric s is = absurd (let nothing : None ≡ Some s = is in cc)
marking_tag kind.HighLevel s is = absurd (let nothing : None ≡ Some s = is in cc)

sort_tag : (k : Kind) (s : Spot) → spot_in k (codes "type") 0 (rule_for tag.Place).slots ≡ Some s → HasTag k tag.Type s
unfolding rule_for tag_of spot_in
sort_tag kind.PtNet s is = absurd (let nothing : None ≡ Some s = is in cc)
sort_tag kind.Symmetric s is = (refl, same_tag 3 tag.Type s is)
sort_tag kind.HighLevel s is = (refl, same_tag 3 tag.Type s is)

hl_marking_tag : (k : Kind) (s : Spot) → spot_in k (codes "hlinitialMarking") 0 (rule_for tag.Place).slots ≡ Some s → HasTag k tag.HlInitialMarking s
unfolding rule_for tag_of spot_in
hl_marking_tag kind.PtNet s is = absurd (let nothing : None ≡ Some s = is in cc)
hl_marking_tag kind.Symmetric s is = (refl, same_tag 4 tag.HlInitialMarking s is)
hl_marking_tag kind.HighLevel s is = (refl, same_tag 4 tag.HlInitialMarking s is)

condition_tag : (k : Kind) (s : Spot) → spot_in k (codes "condition") 0 (rule_for tag.Transition).slots ≡ Some s → HasTag k tag.Condition s
unfolding rule_for tag_of spot_in
condition_tag kind.PtNet s is = absurd (let nothing : None ≡ Some s = is in cc)
condition_tag kind.Symmetric s is = (refl, same_tag 2 tag.Condition s is)
condition_tag kind.HighLevel s is = (refl, same_tag 2 tag.Condition s is)

weight_tag : (k : Kind) (s : Spot) → spot_in k (codes "inscription") 0 (rule_for tag.Arc).slots ≡ Some s → s.tag ≡ tag.Inscription
unfolding rule_for tag_of spot_in
weight_tag kind.PtNet s is = same_tag 2 tag.Inscription s is
weight_tag kind.Symmetric s is = absurd (let nothing : None ≡ Some s = is in cc)
weight_tag kind.HighLevel s is = absurd (let nothing : None ≡ Some s = is in cc)

inscription_tag : (k : Kind) (s : Spot) → spot_in k (codes "hlinscription") 0 (rule_for tag.Arc).slots ≡ Some s → HasTag k tag.HlInscription s
unfolding rule_for tag_of spot_in
inscription_tag kind.PtNet s is = absurd (let nothing : None ≡ Some s = is in cc)
inscription_tag kind.Symmetric s is = (refl, same_tag 3 tag.HlInscription s is)
inscription_tag kind.HighLevel s is = (refl, same_tag 3 tag.HlInscription s is)

-- a label that may be there

number_kids : (n : ℕ) (k : Kind) (says t : Tag) (name : List ℕ) (e : Element) → IsSoundElement n k (rule_for says) e → ((s : Spot) → spot_in k name 0 (rule_for says).slots ≡ Some s → s.tag ≡ t)
    → is_name name ≡ true → ((x : Element) → is_element n x ≡ true → IsShaped k t x → is_element n (number_label name (count_label x)) ≡ true)
    → AllFit n (kids_of (number_label name) (option_map count_label (child_named name e)))
number_kids n k says t name e w tagged named fits =
    kids_of_fit n (number_label name) count_label (child_named name e)
    (λ x is. let i = inner_first n k (rule_for says) e w name x is in fits x i.fits (subst (λ u. IsShaped k u x) (tagged i.spot i.found) i.shaped))

term_kids : (n : ℕ) (k : Kind) (says t : Tag) (name : List ℕ) (e : Element) → IsSoundElement n k (rule_for says) e → ((s : Spot) → spot_in k name 0 (rule_for says).slots ≡ Some s → HasTag k t s)
    → ((x : Element) → HasSorts k → is_element n x ≡ true → IsShaped k t x → is_element n (label_element name term_element (term_label x)) ≡ true)
    → AllFit n (kids_of (label_element name term_element) (option_map term_label (child_named name e)))
term_kids n k says t name e w tagged fits =
    kids_of_fit n (label_element name term_element) term_label (child_named name e)
    (λ x is.
    let i = inner_first n k (rule_for says) e w name x is in
    let tag = tagged i.spot i.found in
    fits x tag.0 i.fits (subst (λ u. IsShaped k u x) tag.1 i.shaped))

sort_kids : (n : ℕ) (k : Kind) (e : Element) → IsSoundElement n k (rule_for tag.Place) e → AllFit n (kids_of (label_element (codes "type") sort_element) (option_map sort_label (child_named (codes "type") e)))
sort_kids n k e w =
    kids_of_fit n (label_element (codes "type") sort_element) sort_label (child_named (codes "type") e)
    (λ x is.
    let i = inner_first n k (rule_for tag.Place) e w (codes "type") x is in
    let tag = sort_tag k i.spot i.found in
    sort_label_fits n k x tag.0 i.fits (subst (λ u. IsShaped k u x) tag.1 i.shaped))

-- objects

place_whole : (n : ℕ) (k : Kind) (e : Element) → is_element (suc n) e ≡ true → IsShaped k tag.Place e → IsSoundElement n k (rule_for tag.Place) e
unfolding rule_for
place_whole n k e fits shaped = whole_of n k tag.Place e refl fits shaped

pub place_fits : (n : ℕ) (k : Kind) (e : Element) → is_element n e ≡ true → IsShaped k tag.Place e → is_element n (place_element (place_read e)) ≡ true
place_fits zero k e fits shaped = absurd (not_element-zero e fits)
place_fits (suc n) k e fits shaped =
    let w = place_whole n k e fits shaped in
    let head = head_kids (head_read e) in
    let marking = kids_of (number_label (codes "initialMarking")) (option_map count_label (child_named (codes "initialMarking") e)) in
    let sort = kids_of (label_element (codes "type") sort_element) (option_map sort_label (child_named (codes "type") e)) in
    let hl_marking = kids_of (label_element (codes "hlinitialMarking") term_element) (option_map term_label (child_named (codes "hlinitialMarking") e)) in
    made_fits n (codes "place") (id_attr (attribute_of (codes "id") e) ∷ []) (head ++ (marking ++ (sort ++ hl_marking))) refl (id_right n e w.parts)
    (both_fit n head (marking ++ (sort ++ hl_marking)) (head_fits n e w.parts)
    (both_fit n marking (sort ++ hl_marking)
    (number_kids n k tag.Place tag.InitialMarking (codes "initialMarking") e w (marking_tag k) refl
    (λ x fit is. number_label_fits n k tag.InitialMarking tag.MarkingText (codes "initialMarking") x (marking_number k) refl fit is))
    (both_fit n sort hl_marking (sort_kids n k e w)
    (term_kids n k tag.Place tag.HlInitialMarking (codes "hlinitialMarking") e w (hl_marking_tag k)
    (λ x had fit is. term_label_fits n k tag.HlInitialMarking (codes "hlinitialMarking") x had marking_term refl fit is)))))

transition_whole : (n : ℕ) (k : Kind) (e : Element) → is_element (suc n) e ≡ true → IsShaped k tag.Transition e → IsSoundElement n k (rule_for tag.Transition) e
unfolding rule_for
transition_whole n k e fits shaped = whole_of n k tag.Transition e refl fits shaped

pub transition_fits : (n : ℕ) (k : Kind) (e : Element) → is_element n e ≡ true → IsShaped k tag.Transition e → is_element n (transition_element (transition_read e)) ≡ true
transition_fits zero k e fits shaped = absurd (not_element-zero e fits)
transition_fits (suc n) k e fits shaped =
    let w = transition_whole n k e fits shaped in
    let head = head_kids (head_read e) in
    let condition = kids_of (label_element (codes "condition") term_element) (option_map term_label (child_named (codes "condition") e)) in
    made_fits n (codes "transition") (id_attr (attribute_of (codes "id") e) ∷ []) (head ++ condition) refl (id_right n e w.parts)
    (both_fit n head condition (head_fits n e w.parts)
    (term_kids n k tag.Transition tag.Condition (codes "condition") e w (condition_tag k) (λ x had fit is. term_label_fits n k tag.Condition (codes "condition") x had condition_term refl fit is)))

arc_whole : (n : ℕ) (k : Kind) (e : Element) → is_element (suc n) e ≡ true → IsShaped k tag.Arc e → IsSoundElement n k (rule_for tag.Arc) e
unfolding rule_for
arc_whole n k e fits shaped = whole_of n k tag.Arc e refl fits shaped

arc_attrs : (id source target : List ℕ) → is_text id ≡ true → is_text source ≡ true → is_text target ≡ true
    → are_attrs (id_attr id ∷ attribute (codes "source") source ∷ attribute (codes "target") target ∷ []) ≡ true
arc_attrs id source target first second third =
    and_both (is_text id) (is_text source && (is_text target && true)) first (and_both (is_text source) (is_text target && true) second (and_both (is_text target) true third refl))

pub arc_fits : (n : ℕ) (k : Kind) (e : Element) → is_element n e ≡ true → IsShaped k tag.Arc e → is_element n (arc_element (arc_read e)) ≡ true
arc_fits zero k e fits shaped = absurd (not_element-zero e fits)
arc_fits (suc n) k e fits shaped =
    let w = arc_whole n k e fits shaped in
    let head = head_kids (head_read e) in
    let weight = kids_of (number_label (codes "inscription")) (option_map count_label (child_named (codes "inscription") e)) in
    let inscription = kids_of (label_element (codes "hlinscription") term_element) (option_map term_label (child_named (codes "hlinscription") e)) in
    let source = attribute_of (codes "source") e in
    let target = attribute_of (codes "target") e in
    made_fits n (codes "arc") (id_attr (attribute_of (codes "id") e) ∷ attribute (codes "source") source ∷ attribute (codes "target") target ∷ []) (head ++ (weight ++ inscription)) refl
    (arc_attrs (attribute_of (codes "id") e) source target (given n (codes "id") e w.parts) (given n (codes "source") e w.parts) (given n (codes "target") e w.parts))
    (both_fit n head (weight ++ inscription) (head_fits n e w.parts)
    (both_fit n weight inscription
    (number_kids n k tag.Arc tag.Inscription (codes "inscription") e w (weight_tag k) refl
    (λ x fit is. number_label_fits n k tag.Inscription tag.WeightText (codes "inscription") x (inscription_number k) refl fit is))
    (term_kids n k tag.Arc tag.HlInscription (codes "hlinscription") e w (inscription_tag k) (λ x had fit is. term_label_fits n k tag.HlInscription (codes "hlinscription") x had inscription_term refl fit is))))

pub reference_fits : (n : ℕ) (name : List ℕ) (e : Element) → is_name name ≡ true → is_element n e ≡ true → is_element n (reference_element name (reference_read e)) ≡ true
reference_fits zero name e named fits = absurd (not_element-zero e fits)
reference_fits (suc n) name e named fits =
    let p = parts_of n e fits in
    let id = attribute_of (codes "id") e in
    let refers = attribute_of (codes "ref") e in
    made_fits n name (id_attr id ∷ attribute (codes "ref") refers ∷ []) (head_kids (head_read e)) named
    (and_both (is_text id) (is_text refers && true) (given n (codes "id") e p) (and_both (is_text refers) true (given n (codes "ref") e p) refl)) (head_fits n e p)
