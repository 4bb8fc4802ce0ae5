use Rattle.std.proofs.Common.{◌≡◌, ◌++◌, codes, subst}
use Rattle.std.proofs.lemmas.Result.{on_ok_weaker}
use Rattle.pn_tree.specs.Building.{at_innermost}
use Rattle.pn_tree.specs.Copies.{with_kids}
use Rattle.pn_objects.specs.declared.net.Page.TheViews.{out-Page}
use Rattle.pn_spelling.specs.Writing.{all_kids}
use Rattle.pn_spelling.specs.WriteNets.{head_kids, declaration_label, place_element, transition_element, reference_element, arc_element}
use Rattle.pn_writer.proofs.GivingLemmas.{front_fits, rest_fits, both}
use Rattle.pn_writer.proofs.nets.add_own.Goals as goal

pub add_references-requires-2 : goal.add_references-requires-2
add_references-requires-2 c =
    let page = out-Page c.args.page.now in
    let head = head_kids page.head in
    let declared = all_kids declaration_label page.declarations in
    let places = all_kids place_element page.places in
    let transitions = all_kids transition_element page.transitions in
    let places_referred = all_kids (reference_element (codes "referencePlace")) page.place_refs in
    let transitions_referred = all_kids (reference_element (codes "referenceTransition")) page.transition_refs in
    let arcs = all_kids arc_element page.arcs in
    let given-0 = c.in_ok-add_head.ensures in
    let given-1 = subst (λ xs. c.add_declarations.new.into ≡ at_innermost (with_kids (all_kids declaration_label xs)) c.add_head.new.into) c.as_slice.ensures c.in_ok-add_declarations.ensures in
    let given-2 = subst (λ xs. c.add_places.new.into ≡ at_innermost (with_kids (all_kids place_element xs)) c.add_declarations.new.into) c.as_slice-2.ensures c.in_ok-add_places.ensures in
    let given-3 = subst (λ xs. c.add_transitions.new.into ≡ at_innermost (with_kids (all_kids transition_element xs)) c.add_places.new.into) c.as_slice-3.ensures c.in_ok-add_transitions.ensures in
    let given-4 = subst (λ xs. c.add_references.new.into ≡ at_innermost (with_kids (all_kids (reference_element (codes "referencePlace")) xs)) c.add_transitions.new.into) c.as_slice-4.ensures c.in_ok-add_references.ensures in
    let fit-1 = rest_fits head (declared ++ (places ++ (transitions ++ (places_referred ++ (transitions_referred ++ arcs))))) _ _ c.requires given-0 in
    let fit-2 = rest_fits declared (places ++ (transitions ++ (places_referred ++ (transitions_referred ++ arcs)))) _ _ fit-1 given-1 in
    let fit-3 = rest_fits places (transitions ++ (places_referred ++ (transitions_referred ++ arcs))) _ _ fit-2 given-2 in
    let fit-4 = rest_fits transitions (places_referred ++ (transitions_referred ++ arcs)) _ _ fit-3 given-3 in
    let fit-5 = rest_fits places_referred (transitions_referred ++ arcs) _ _ fit-4 given-4 in
    rw c.as_slice-5.ensures (front_fits transitions_referred arcs _ fit-5)

pub add_arcs-requires : goal.add_arcs-requires
add_arcs-requires c =
    let page = out-Page c.args.page.now in
    let head = head_kids page.head in
    let declared = all_kids declaration_label page.declarations in
    let places = all_kids place_element page.places in
    let transitions = all_kids transition_element page.transitions in
    let places_referred = all_kids (reference_element (codes "referencePlace")) page.place_refs in
    let transitions_referred = all_kids (reference_element (codes "referenceTransition")) page.transition_refs in
    let arcs = all_kids arc_element page.arcs in
    let given-0 = c.in_ok-add_head.ensures in
    let given-1 = subst (λ xs. c.add_declarations.new.into ≡ at_innermost (with_kids (all_kids declaration_label xs)) c.add_head.new.into) c.as_slice.ensures c.in_ok-add_declarations.ensures in
    let given-2 = subst (λ xs. c.add_places.new.into ≡ at_innermost (with_kids (all_kids place_element xs)) c.add_declarations.new.into) c.as_slice-2.ensures c.in_ok-add_places.ensures in
    let given-3 = subst (λ xs. c.add_transitions.new.into ≡ at_innermost (with_kids (all_kids transition_element xs)) c.add_places.new.into) c.as_slice-3.ensures c.in_ok-add_transitions.ensures in
    let given-4 = subst (λ xs. c.add_references.new.into ≡ at_innermost (with_kids (all_kids (reference_element (codes "referencePlace")) xs)) c.add_transitions.new.into) c.as_slice-4.ensures c.in_ok-add_references.ensures in
    let given-5 = subst (λ xs. c.add_references-2.new.into ≡ at_innermost (with_kids (all_kids (reference_element (codes "referenceTransition")) xs)) c.add_references.new.into) c.as_slice-5.ensures c.in_ok-add_references-2.ensures in
    let fit-1 = rest_fits head (declared ++ (places ++ (transitions ++ (places_referred ++ (transitions_referred ++ arcs))))) _ _ c.requires given-0 in
    let fit-2 = rest_fits declared (places ++ (transitions ++ (places_referred ++ (transitions_referred ++ arcs)))) _ _ fit-1 given-1 in
    let fit-3 = rest_fits places (transitions ++ (places_referred ++ (transitions_referred ++ arcs))) _ _ fit-2 given-2 in
    let fit-4 = rest_fits transitions (places_referred ++ (transitions_referred ++ arcs)) _ _ fit-3 given-3 in
    let fit-5 = rest_fits places_referred (transitions_referred ++ arcs) _ _ fit-4 given-4 in
    let fit-6 = rest_fits transitions_referred (arcs) _ _ fit-5 given-5 in
    rw c.as_slice-6.ensures fit-6

pub returns : goal.returns
returns c =
    let page = out-Page c.args.page.now in
    let head = head_kids page.head in
    let declared = all_kids declaration_label page.declarations in
    let places = all_kids place_element page.places in
    let transitions = all_kids transition_element page.transitions in
    let places_referred = all_kids (reference_element (codes "referencePlace")) page.place_refs in
    let transitions_referred = all_kids (reference_element (codes "referenceTransition")) page.transition_refs in
    let arcs = all_kids arc_element page.arcs in
    let given-0 = c.in_ok-add_head.ensures in
    let given-1 = subst (λ xs. c.add_declarations.new.into ≡ at_innermost (with_kids (all_kids declaration_label xs)) c.add_head.new.into) c.as_slice.ensures c.in_ok-add_declarations.ensures in
    let given-2 = subst (λ xs. c.add_places.new.into ≡ at_innermost (with_kids (all_kids place_element xs)) c.add_declarations.new.into) c.as_slice-2.ensures c.in_ok-add_places.ensures in
    let given-3 = subst (λ xs. c.add_transitions.new.into ≡ at_innermost (with_kids (all_kids transition_element xs)) c.add_places.new.into) c.as_slice-3.ensures c.in_ok-add_transitions.ensures in
    let given-4 = subst (λ xs. c.add_references.new.into ≡ at_innermost (with_kids (all_kids (reference_element (codes "referencePlace")) xs)) c.add_transitions.new.into) c.as_slice-4.ensures c.in_ok-add_references.ensures in
    let given-5 = subst (λ xs. c.add_references-2.new.into ≡ at_innermost (with_kids (all_kids (reference_element (codes "referenceTransition")) xs)) c.add_references.new.into) c.as_slice-5.ensures c.in_ok-add_references-2.ensures in
    on_ok_weaker c.add_arcs.result
    (λ last. let given = subst (λ xs. c.add_arcs.new.into ≡ at_innermost (with_kids (all_kids arc_element xs)) c.add_references-2.new.into) c.as_slice-6.ensures last in both head (declared ++ (places ++ (transitions ++ (places_referred ++ (transitions_referred ++ arcs))))) c.args.into.now c.add_head.new.into c.add_arcs.new.into given-0 (both declared (places ++ (transitions ++ (places_referred ++ (transitions_referred ++ arcs)))) c.add_head.new.into c.add_declarations.new.into c.add_arcs.new.into given-1 (both places (transitions ++ (places_referred ++ (transitions_referred ++ arcs))) c.add_declarations.new.into c.add_places.new.into c.add_arcs.new.into given-2 (both transitions (places_referred ++ (transitions_referred ++ arcs)) c.add_places.new.into c.add_transitions.new.into c.add_arcs.new.into given-3 (both places_referred (transitions_referred ++ arcs) c.add_transitions.new.into c.add_references.new.into c.add_arcs.new.into given-4 (both transitions_referred arcs c.add_references.new.into c.add_references-2.new.into c.add_arcs.new.into given-5 given))))))
    c.add_arcs.ensures
