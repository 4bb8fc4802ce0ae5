-- The element that is written for a page that was read may stand in a tree, where the element that was read may.
use Rattle.std.proofs.Common.{◌≡◌, ℕ, zero, suc, true, List, [], ◌∷◌, ◌++◌, map, codes, Some, None, refl, ap, subst, ◌∙◌}
use Rattle.pn_operators.specs.declared.kind.Kind.{Kind}
use Rattle.pn_operators.specs.declared.kind.Kind.TheVariants as kind
use Rattle.pn_tree.specs.Elements.{is_element}
use Rattle.pn_tree.specs.declared.element.Element.{Element}
use Rattle.pn_tree.proofs.TreeLemmas.{not_element-zero}
use Rattle.pn_shape.specs.Faults.{IsShaped}
use Rattle.pn_shape.specs.Rules.{Saying, rule_for}
use Rattle.pn_shape.specs.Spots.{spot_in, tag_of}
use Rattle.pn_shape.specs.declared.search.Spot.{Spot}
use Rattle.pn_shape.specs.declared.tag.Tag.TheVariants as tag
use Rattle.pn_objects.specs.declared.net.Page.{Page}
use Rattle.pn_objects.specs.declared.net.Page.TheOpen as layer
use Rattle.pn_objects.specs.declared.net.Page.TheViews.{out-Page, out-roll-Page}
use Rattle.pn_objects.specs.declared.net.Page.TheFolds.{fold_out-Page}
use Rattle.pn_spelling.specs.Parts.{attribute_of, children_named}
use Rattle.pn_spelling.specs.ReadNets.{arc_read, declarations_label, head_read, page_read, page_with, place_read, reference_read, transition_read}
use Rattle.pn_spelling.specs.Writing.{all_kids, made}
use Rattle.pn_spelling.specs.WriteNets.{arc_element, declaration_label, head_kids, id_attr, own_kids, page_element, page_step, place_element, reference_element, transition_element}
use Rattle.pn_spelling.proofs.PageLemmas.{page_read_is}
use Rattle.pn_round_trip.proofs.WritableLabels.{declarations_label_fits, head_fits}
use Rattle.pn_round_trip.proofs.WritableObjects.{HasTag, arc_fits, id_right, place_fits, reference_fits, transition_fits}
use Rattle.pn_round_trip.proofs.WritableParts.{AllFit, Inner, IsSoundElement, all_kids_fit, both_fit, inner_named, made_fits, same_tag, whole_of}

-- what was read of the elements of a name, where they are of one tag
pub kids_fit : {A : Type 0} (n : ℕ) (k : Kind) (says : Saying) (name : List ℕ) (spell : A → Element) (read : Element → A) (e : Element) → IsSoundElement n k says e
    → ((x : Element) (s : Spot) → is_element n x ≡ true → spot_in k name 0 says.slots ≡ Some s → IsShaped k s.tag x → is_element n (spell (read x)) ≡ true)
    → AllFit n (all_kids spell (map read (children_named name e)))
kids_fit n k says name spell read e w fits =
    all_kids_fit (Inner n k says.slots name) n spell read (λ x i. fits x i.spot i.fits i.found i.shaped) (children_named name e) (inner_named n k says e w name)

-- which elements stand on a page

declaration_tag : (k : Kind) (s : Spot) → spot_in k (codes "declaration") 0 (rule_for tag.Page).slots ≡ Some s → HasTag k tag.Declaration s
unfolding rule_for tag_of spot_in
declaration_tag kind.PtNet s is = absurd (let nothing : None ≡ Some s = is in cc)
declaration_tag kind.Symmetric s is = (refl, same_tag 2 tag.Declaration s is)
declaration_tag kind.HighLevel s is = (refl, same_tag 2 tag.Declaration s is)

place_tag : (k : Kind) (s : Spot) → spot_in k (codes "place") 0 (rule_for tag.Page).slots ≡ Some s → s.tag ≡ tag.Place
unfolding rule_for tag_of spot_in
place_tag k s is = same_tag 3 tag.Place s is

transition_tag : (k : Kind) (s : Spot) → spot_in k (codes "transition") 0 (rule_for tag.Page).slots ≡ Some s → s.tag ≡ tag.Transition
unfolding rule_for tag_of spot_in
transition_tag k s is = same_tag 4 tag.Transition s is

arc_tag : (k : Kind) (s : Spot) → spot_in k (codes "arc") 0 (rule_for tag.Page).slots ≡ Some s → s.tag ≡ tag.Arc
unfolding rule_for tag_of spot_in
arc_tag k s is = same_tag 7 tag.Arc s is

page_tag : (k : Kind) (s : Spot) → spot_in k (codes "page") 0 (rule_for tag.Page).slots ≡ Some s → s.tag ≡ tag.Page
unfolding rule_for tag_of spot_in
page_tag k s is = same_tag 8 tag.Page s is

-- what an element says on a page in which pages stand
abbrev page_layer : List Page → Element → layer.Page-F Page
page_layer pages e = record {
  id = attribute_of (codes "id") e;
  head = head_read e;
  declarations = map declarations_label (children_named (codes "declaration") e);
  places = map place_read (children_named (codes "place") e);
  transitions = map transition_read (children_named (codes "transition") e);
  place_refs = map reference_read (children_named (codes "referencePlace") e);
  transition_refs = map reference_read (children_named (codes "referenceTransition") e);
  arcs = map arc_read (children_named (codes "arc") e);
  pages = pages;
  at = e.at;
}

own_fit : (n : ℕ) (k : Kind) (pages : List Page) (e : Element) → IsSoundElement n k (rule_for tag.Page) e → AllFit n (own_kids (page_layer pages e))
own_fit n k pages e w =
    let says = rule_for tag.Page in
    let head = head_kids (head_read e) in
    let declarations = all_kids declaration_label (map declarations_label (children_named (codes "declaration") e)) in
    let places = all_kids place_element (map place_read (children_named (codes "place") e)) in
    let transitions = all_kids transition_element (map transition_read (children_named (codes "transition") e)) in
    let place_refs = all_kids (reference_element (codes "referencePlace")) (map reference_read (children_named (codes "referencePlace") e)) in
    let transition_refs = all_kids (reference_element (codes "referenceTransition")) (map reference_read (children_named (codes "referenceTransition") e)) in
    let arcs = all_kids arc_element (map arc_read (children_named (codes "arc") e)) in
    both_fit n head (declarations ++ (places ++ (transitions ++ (place_refs ++ (transition_refs ++ arcs))))) (head_fits n e w.parts)
    (both_fit n declarations (places ++ (transitions ++ (place_refs ++ (transition_refs ++ arcs))))
    (kids_fit n k says (codes "declaration") declaration_label declarations_label e w
    (λ x s fit is shaped. let t = declaration_tag k s is in declarations_label_fits n k x t.0 fit (subst (λ u. IsShaped k u x) t.1 shaped)))
    (both_fit n places (transitions ++ (place_refs ++ (transition_refs ++ arcs)))
    (kids_fit n k says (codes "place") place_element place_read e w (λ x s fit is shaped. place_fits n k x fit (subst (λ u. IsShaped k u x) (place_tag k s is) shaped)))
    (both_fit n transitions (place_refs ++ (transition_refs ++ arcs))
    (kids_fit n k says (codes "transition") transition_element transition_read e w (λ x s fit is shaped. transition_fits n k x fit (subst (λ u. IsShaped k u x) (transition_tag k s is) shaped)))
    (both_fit n place_refs (transition_refs ++ arcs)
    (kids_fit n k says (codes "referencePlace") (reference_element (codes "referencePlace")) reference_read e w (λ x s fit is shaped. reference_fits n (codes "referencePlace") x refl fit))
    (both_fit n transition_refs arcs
    (kids_fit n k says (codes "referenceTransition") (reference_element (codes "referenceTransition")) reference_read e w (λ x s fit is shaped. reference_fits n (codes "referenceTransition") x refl fit))
    (kids_fit n k says (codes "arc") arc_element arc_read e w (λ x s fit is shaped. arc_fits n k x fit (subst (λ u. IsShaped k u x) (arc_tag k s is) shaped))))))))

page_whole : (n : ℕ) (k : Kind) (e : Element) → is_element (suc n) e ≡ true → IsShaped k tag.Page e → IsSoundElement n k (rule_for tag.Page) e
unfolding rule_for
page_whole n k e fits shaped = whole_of n k tag.Page e refl fits shaped

abbrev page_of : layer.Page-F Page → Element
page_of l = made (codes "page") (id_attr l.id ∷ []) (own_kids l ++ all_kids page_element l.pages)

-- the element of a page, by what the page has
pub page_element_is : (p : Page) → page_element p ≡ page_of (out-Page p)
page_element_is p = fold_out-Page Element page_step p ∙ refl

page_again : (e : Element) → page_element (page_read e) ≡ page_of (page_layer (map page_read (children_named (codes "page") e)) e)
page_again e =
    ap page_element (page_read_is e) ∙ page_element_is (page_with (map page_read (children_named (codes "page") e)) e)
    ∙ ap page_of (out-roll-Page (page_layer (map page_read (children_named (codes "page") e)) e))

-- the page that an element without a fault of shape spells
pub page_fits : (n : ℕ) (k : Kind) (e : Element) → is_element n e ≡ true → IsShaped k tag.Page e → is_element n (page_element (page_read e)) ≡ true
page_fits zero k e fits shaped = absurd (not_element-zero e fits)
page_fits (suc n) k e fits shaped =
    let w = page_whole n k e fits shaped in
    let pages = map page_read (children_named (codes "page") e) in
    ap (is_element (suc n)) (page_again e)
    ∙ made_fits n (codes "page") (id_attr (attribute_of (codes "id") e) ∷ []) (own_kids (page_layer pages e) ++ all_kids page_element pages) refl (id_right n e w.parts)
    (both_fit n (own_kids (page_layer pages e)) (all_kids page_element pages) (own_fit n k pages e w)
    (kids_fit n k (rule_for tag.Page) (codes "page") page_element page_read e w (λ x s fit is shape. page_fits n k x fit (subst (λ u. IsShaped k u x) (page_tag k s is) shape))))
