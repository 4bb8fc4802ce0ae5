use Rattle.std.proofs.Common.{[], length, map, sym, ap, take, subst, option_copied, ◌≡◌, ◌∙◌, Bool}
use Rattle.std.specs.List.{Contains}
use Rattle.pn_eval.specs.Assignments.{Covers}
use Rattle.pn_eval.proofs.OnceLemmas.{value_once}
use Rattle.pn_marking.specs.Known.{AreKnown, arcs_with}
use Rattle.pn_marking.specs.Totals.{arcs_at}
use Rattle.pn_marking.proofs.KnownLemmas.{all_arcs}
use Rattle.pn_terms.proofs.WalkLemmas.{if_ok_more}
use Rattle.pn_modes.specs.Parts.{AreUnfit, ready_numbers}
use Rattle.pn_modes.proofs.CutLemmas.{cut_part, cut_unfit, typed_at}
use Rattle.pn_modes.proofs.KnownLemmas.{ready_known}
use Rattle.pn_modes.proofs.VariableLemmas.{front_assigns}
use Rattle.pn_modes.proofs.fronts.fits.Goals as goal

pub slice_bounds-vars-end : goal.slice_bounds-vars-end
slice_bounds-vars-end c =
    let x = c.args.fronts.now in
    (front_assigns x.net.now.declarations x.variables.now x.sorts c.args.front.now c.requires.plan.have.variables.ascending c.requires.plan.have.are_sorts c.requires.front).size

pub parts_hold-requires-clause-typed : goal.parts_hold-requires-clause-typed
parts_hold-requires-clause-typed c part there =
    let x = c.args.fronts.now in
    typed_at x.net.now c.flat-flat.ensures.typed.labels x.transition part.term.now (c.requires.plan.are_parts part (subst (λ ps. Contains ps part) c.deref.ensures.value there)).stands

pub parts_hold-requires-clause-covers : goal.parts_hold-requires-clause-covers
parts_hold-requires-clause-covers c part there need =
    let x = c.args.fronts.now in
    subst (λ n. Covers x.net.now.declarations (take n x.variables.now) part.term.now) need (c.requires.plan.are_parts part (subst (λ ps. Contains ps part) c.deref.ensures.value there)).covers

pub parts_hold-requires-clause-assignment : goal.parts_hold-requires-clause-assignment
parts_hold-requires-clause-assignment c =
    let x = c.args.fronts.now in
    front_assigns x.net.now.declarations x.variables.now x.sorts c.args.front.now c.requires.plan.have.variables.ascending c.requires.plan.have.are_sorts c.requires.front

pub returns-then-not-branch : goal.returns-then-not-branch
returns-then-not-branch c = λ no.
    let x = c.args.fronts.now in
    let found = c.in_ok-parts_hold.ensures c.if-not-branch.true in
    let is = c.requires.plan.are_parts found.0 (subst (λ ps. Contains ps found.0) c.deref.ensures.value found.1) in
    let sized = (front_assigns x.net.now.declarations x.variables.now x.sorts c.args.front.now c.requires.plan.have.variables.ascending c.requires.plan.have.are_sorts c.requires.front).size in
    cut_part x.net.now x.transition x.variables.now c.requires.plan.have.variables (option_copied x.marking) c.args.front.now (length c.args.front.now) sized found.0.term.now
    (typed_at x.net.now c.flat-flat.ensures.typed.labels x.transition found.0.term.now is.stands) is.stands
    (subst (λ n. Covers x.net.now.declarations (take n x.variables.now) found.0.term.now) found.2 is.covers) found.3

pub totals_fit-requires-clause-known : goal.totals_fit-requires-clause-known
totals_fit-requires-clause-known c =
    let x = c.args.fronts.now in
    let sized = (front_assigns x.net.now.declarations x.variables.now x.sorts c.args.front.now c.requires.plan.have.variables.ascending c.requires.plan.have.are_sorts c.requires.front).size in
    let numbers : c.deref-4.result.now ≡ ready_numbers (length c.args.front.now) x.arcs.items = c.deref-4.ensures.value ∙ c.in_ok-numbers.ensures ∙ ap (ready_numbers (length c.args.front.now)) c.deref-3.ensures.value in
    subst (AreKnown x.net.now (take (length c.args.front.now) x.variables.now)) (sym numbers)
    (ready_known x.net.now c.flat-flat.ensures.typed.labels x.variables.now (length c.args.front.now) c.args.front.now [] sized x.arcs.items c.requires.plan.are_arcs)

pub totals_fit-requires-clause-assignment : goal.totals_fit-requires-clause-assignment
totals_fit-requires-clause-assignment c =
    let x = c.args.fronts.now in
    front_assigns x.net.now.declarations x.variables.now x.sorts c.args.front.now c.requires.plan.have.variables.ascending c.requires.plan.have.are_sorts c.requires.front

pub returns : goal.returns
returns c =
    let x = c.args.fronts.now in
    let count = length c.args.front.now in
    let sized = (front_assigns x.net.now.declarations x.variables.now x.sorts c.args.front.now c.requires.plan.have.variables.ascending c.requires.plan.have.are_sorts c.requires.front).size in
    let numbers : c.deref-4.result.now ≡ ready_numbers count x.arcs.items = c.deref-4.ensures.value ∙ c.in_ok-numbers.ensures ∙ ap (ready_numbers count) c.deref-3.ensures.value in
    let all : (into : Bool) → arcs_with x.net.now into (map (λ a. a.number) x.arcs.items) ≡ arcs_at x.net.now x.transition into = λ into. ap (arcs_with x.net.now into) c.requires.plan.numbers ∙ all_arcs x.net.now into x.transition in
    if_ok_more c.totals_fit.result _ _
    (λ fit unfit no. cut_unfit x.net.now x.transition x.variables.now c.requires.plan.have.variables c.flat-flat.ensures.typed.labels x.arcs.items c.requires.plan.are_arcs all (option_copied x.marking) c.args.front.now count sized
    (value_once x.net.now.declarations (take count x.variables.now) c.args.front.now c.decls-decls.ensures.faultless)
    (subst (λ ns. AreUnfit x.net.now (take count x.variables.now) c.args.front.now ns (option_copied x.marking)) numbers (unfit no)))
    c.totals_fit.ensures
