use Rattle.std.proofs.Common.{length, map, refl, sym, ap, ◌∙◌, subst}
use Rattle.std.specs.List.{AllZip}
use Rattle.std.proofs.lemmas.List.{length-map}
use Rattle.pn_cycles.specs.Graphs.{IsWhole}
use Rattle.pn_facts.proofs.Results.{if_ok}
use Rattle.pn_faults.specs.Walks.{StandsInSome}
use Rattle.pn_net.specs.Ids.{holders_of}
use Rattle.pn_net.specs.Objects.{net_arcs}
use Rattle.pn_pages.specs.Following.{HaveGoals, IsTarget, rows_of_targets}
use Rattle.pn_pages.specs.Linking.{AreEnds, AreFollowed, IsArcFault, IsFaultOfReferences, AddsFaults}
use Rattle.pn_pages.specs.Naming.{all_holders}
use Rattle.pn_pages.specs.Wiring.{IsWire, wire_of}
use Rattle.pn_pages.proofs.GoalLemmas.{are_followed, zip_length}
use Rattle.pn_pages.proofs.JudgingLemmas.{found_in, judged, whole_targets, wires_are}
use Rattle.pn_pages.proofs.flattening.look.Goals as goal

pub goals-requires : goal.goals-requires
goals-requires c =
    let o = c.args.objects.now in
    subst (λ ts. IsWhole (rows_of_targets ts)) (sym c.deref.ensures.value) (whole_targets o (all_holders c.args.id.now c.args.at o) c.in_ok-found.found.targets.items c.in_ok-found.ensures.targets)

pub tell_references-requires-clause-targets : goal.tell_references-requires-clause-targets
tell_references-requires-clause-targets c =
    let o = c.args.objects.now in
    let found = c.in_ok-found.found in
    let same = zip_length (IsTarget o (all_holders c.args.id.now c.args.at o)) o.references found.targets.items c.in_ok-found.ensures.targets in
    ap length c.deref-2.ensures.value ∙ same ∙ sym (ap length c.as_slice-references.ensures)

pub tell_references-requires-clause-goals : goal.tell_references-requires-clause-goals
tell_references-requires-clause-goals c =
    let o = c.args.objects.now in
    let found = c.in_ok-found.found in
    let same = zip_length (IsTarget o (all_holders c.args.id.now c.args.at o)) o.references found.targets.items c.in_ok-found.ensures.targets in
    ap length c.deref-3.ensures.value ∙ c.in_ok-goals.ensures.are_goals.size ∙ ap length c.deref.ensures.value ∙ same ∙ sym (ap length c.as_slice-references.ensures)

pub tell_arcs-requires : goal.tell_arcs-requires
tell_arcs-requires c =
    let o = c.args.objects.now in
    let found = c.in_ok-found.found in
    let same = zip_length (AreEnds o (all_holders c.args.id.now c.args.at o)) o.arcs found.ends.items c.in_ok-found.ensures.ends in
    ap length c.deref-4.ensures.value ∙ same ∙ sym (ap length c.as_slice-arcs.ensures)

pub returns-clause-size : goal.returns-clause-size
returns-clause-size c =
    let o = c.args.objects.now in
    let found = c.in_ok-found.found in
    let same = zip_length (AreEnds o (all_holders c.args.id.now c.args.at o)) o.arcs found.ends.items c.in_ok-found.ensures.ends in
    if_ok _ _ c.wires.result (λ w is. ap length is ∙ length-map c.deref-6.result.now (wire_of o.place_refs c.deref-5.result.now) ∙ ap length c.deref-6.ensures.value ∙ same) c.wires.ensures

pub returns-clause-looked : goal.returns-clause-looked
returns-clause-looked c =
    let o = c.args.objects.now in
    let found = c.in_ok-found.found in
    let first = c.find.new.least in
    let second = c.tell_references.new.least in
    let last = c.tell_arcs.new.least in
    let gs = c.in_ok-goals.goals.items in
    let have : HaveGoals o.place_refs found.targets.items gs = subst (λ ts. HaveGoals o.place_refs ts gs) c.deref.ensures.value c.in_ok-goals.ensures in
    if_ok _ _ c.wires.result (λ w is n of.
    let known = found_in n c.args.id.now c.args.at o found first of c.in_ok-found.ensures in
    let followed = are_followed n o of.holds found.targets.items known.targets gs have in
    let references : AddsFaults n (IsFaultOfReferences n o.place_refs o.references) first second =
    subst (λ rs. AddsFaults n (IsFaultOfReferences n o.place_refs rs) first second) c.as_slice-references.ensures
    (c.in_ok-tell_references.ensures n o refl
    (subst (λ rs. AreFollowed n o rs c.deref-2.result.now c.deref-3.result.now) (sym c.as_slice-references.ensures)
    (subst (λ ts. AreFollowed n o o.references ts c.deref-3.result.now) (sym c.deref-2.ensures.value)
    (subst (λ xs. AreFollowed n o o.references found.targets.items xs) (sym c.deref-3.ensures.value) followed)))) in
    let links : AddsFaults n (StandsInSome (IsArcFault n) o.arcs) second last =
    subst (λ xs. AddsFaults n (StandsInSome (IsArcFault n) xs) second last) c.as_slice-arcs.ensures
    (c.in_ok-tell_arcs.ensures n o refl
    (subst (λ xs. AllZip (AreEnds o (holders_of n)) xs c.deref-4.result.now) (sym c.as_slice-arcs.ensures)
    (subst (λ es. AllZip (AreEnds o (holders_of n)) o.arcs es) (sym c.deref-4.ensures.value) known.ends))) in
    let same = is ∙ ap (λ xs. map (wire_of o.place_refs xs) c.deref-6.result.now) c.deref-5.ensures.value ∙ ap (λ es. map (wire_of o.place_refs gs) es) c.deref-6.ensures.value in
    record {
      judged = judged n o of.holds first second last known.lowest references links;
      wired = λ sound. subst (λ ws. AllZip (IsWire n) (net_arcs n) ws) (sym same) (wires_are n o of.holds found first gs known have sound);
    })
    c.wires.ensures
