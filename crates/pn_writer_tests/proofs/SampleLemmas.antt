-- The net that tests write can be written.
use Rattle.std.proofs.Common.{◌≡◌, ℕ, suc, true, [], ◌∷◌, codes, decimal, None, Some, refl, sym, ap, subst, arith}
use Rattle.std.proofs.lemmas.Fmt.{decimal_digit}
use Rattle.pn_text.specs.Characters.{is_text}
use Rattle.pn_tree.specs.Elements.{is_element}
use Rattle.pn_tree.specs.declared.element.Element.{Element}
use Rattle.pn_objects.specs.declared.net.Page.{Page}
use Rattle.pn_objects.specs.declared.net.Page.TheOpen as layer
use Rattle.pn_objects.specs.declared.net.Page.TheFolds.{fold-roll-Page}
use Rattle.pn_spelling.specs.Writing.{attribute, text_element}
use Rattle.pn_spelling.specs.WriteNets.{id_attr, root_attrs, page_step, page_element, net_element, place_element, transition_element, arc_element, reference_element, name_element, number_label}
use Rattle.pn_spelling.specs.Writable.{IsWritable}
use Rattle.pn_spelling.proofs.WritingLemmas.{element_fits, text_fits, fits_too}
use Rattle.pn_shape.specs.Numbers.{address_of}
use Rattle.pn_operators.specs.declared.kind.Kind.TheVariants as kinds
use Rattle.pn_writer_tests.specs.Sample.{no_head, graphics, sample_place, sample_transition, sample_arc, sample_reference, sample_page, sample_net}

abbrev named : Element
named = name_element (record { value = tt; text = Some (codes "a<b"); opaque = []; at = 5 })

name_fits : is_element 252 named ≡ true
name_fits = element_fits 251 (codes "name") 0 [] (text_element (codes "a<b") ∷ []) refl refl (fits_too 251 (text_element (codes "a<b")) [] (text_fits 250 (codes "a<b") refl) refl)

three_is_text : is_text (decimal 3) ≡ true
three_is_text = ap is_text (decimal_digit 3 (omega arith))

abbrev marked : Element
marked = number_label (codes "initialMarking") (record { value = 3; text = None; opaque = []; at = 6 })

marking_fits : is_element 252 marked ≡ true
marking_fits = element_fits 251 (codes "initialMarking") 0 [] (text_element (decimal 3) ∷ []) refl refl (fits_too 251 (text_element (decimal 3)) [] (text_fits 250 (decimal 3) three_is_text) refl)

pub graphics_fit : (m : ℕ) → is_element (suc m) graphics ≡ true
graphics_fit m = element_fits m (codes "graphics") 7 [] [] refl refl refl

place_fits : is_element 253 (place_element sample_place) ≡ true
place_fits = element_fits 252 (codes "place") 0 (id_attr (codes "a") ∷ []) (named ∷ graphics ∷ marked ∷ []) refl refl
    (fits_too 252 named (graphics ∷ marked ∷ []) name_fits (fits_too 252 graphics (marked ∷ []) (graphics_fit 251) (fits_too 252 marked [] marking_fits refl)))

transition_fits : is_element 253 (transition_element sample_transition) ≡ true
transition_fits = element_fits 252 (codes "transition") 0 (id_attr (codes "t") ∷ []) [] refl refl refl

reference_fits : is_element 253 (reference_element (codes "referencePlace") sample_reference) ≡ true
reference_fits = element_fits 252 (codes "referencePlace") 0 (id_attr (codes "r") ∷ attribute (codes "ref") (codes "a") ∷ []) [] refl refl refl

arc_fits : is_element 253 (arc_element sample_arc) ≡ true
arc_fits = element_fits 252 (codes "arc") 0 (id_attr (codes "u") ∷ attribute (codes "source") (codes "r") ∷ attribute (codes "target") (codes "t") ∷ []) [] refl refl refl

abbrev place : Element
place = place_element sample_place

abbrev transition : Element
transition = transition_element sample_transition

abbrev reference : Element
reference = reference_element (codes "referencePlace") sample_reference

abbrev arc : Element
arc = arc_element sample_arc

page_fits : is_element 254 (page_element sample_page) ≡ true
page_fits =
    subst (λ (e : Element). is_element 254 e ≡ true) (sym (fold-roll-Page Element page_step own))
    (element_fits 253 (codes "page") 0 (id_attr (codes "g") ∷ []) (place ∷ transition ∷ reference ∷ arc ∷ []) refl refl
    (fits_too 253 place (transition ∷ reference ∷ arc ∷ []) place_fits
    (fits_too 253 transition (reference ∷ arc ∷ []) transition_fits (fits_too 253 reference (arc ∷ []) reference_fits (fits_too 253 arc [] arc_fits refl)))))
  where
    own : layer.Page-F Page
    own = record { id = codes "g"; head = no_head; declarations = []; places = sample_place ∷ []; transitions = sample_transition ∷ []; place_refs = sample_reference ∷ []; transition_refs = []; arcs = sample_arc ∷ []; pages = []; at = 3 }

net_fits : is_element 255 (net_element sample_net) ≡ true
net_fits = element_fits 254 (codes "net") 0 (id_attr (codes "n") ∷ attribute (codes "type") (address_of kinds.PtNet) ∷ []) (page_element sample_page ∷ []) refl refl (fits_too 254 (page_element sample_page) [] page_fits refl)

pub sample_is_writable : IsWritable sample_net
sample_is_writable = record {
  tree = element_fits 255 (codes "pnml") 0 (root_attrs sample_net.prefixes) (net_element sample_net ∷ []) refl refl (fits_too 255 (net_element sample_net) [] net_fits refl);
  prefixes = refl;
}
