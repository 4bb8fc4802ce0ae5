use Rattle.std.proofs.Common.{Some, ap, sym, ◌∙◌}
use Rattle.pn_faults.specs.declared.reason.Reason.TheVariants as reasons
use Rattle.pn_faults.specs.Least.{lower}
use Rattle.pn_faults.specs.Order.{fault_at}
use Rattle.pn_net.proofs.RowLemmas.{on_ok_then}
use Rattle.pn_pages.proofs.ArcLemmas.{not_apart, not_same, right_target, unknown_target_of_reference, wrong_target}
use Rattle.pn_pages.proofs.linking.tell_target.Goals as goal

pub returns-in_default : goal.returns-in_default
returns-in_default c =
    let least = c.args.least.now in
    let r = c.args.reference.now in
    on_ok_then c.keep_least_at.result _ _ (λ lowered n o counts to.
    unknown_target_of_reference n o c.args.place_refs counts c.args.of_places r c.args.target to least c.keep_least_at.new.least (sym c.in_default.is ∙ c.side.ensures)
    (lowered ∙ ap (λ d. lower least (Some (fault_at reasons.UnknownEnd r.at d))) c.as_str.ensures))
    c.keep_least_at.ensures.lower

pub returns-then-to-of_places : goal.returns-then-to-of_places
returns-then-to-of_places c =
    let least = c.args.least.now in
    let r = c.args.reference.now in
    on_ok_then c.keep_least_at-then-to-of_places.result _ _ (λ lowered n o counts to.
    wrong_target n o c.args.place_refs counts c.args.of_places r c.args.target to least c.keep_least_at-then-to-of_places.new.least c.in-Some.to (not_same c.in-Some.to c.args.of_places c.if-to-of_places.true)
    (sym c.in-Some.is ∙ c.side.ensures)
    (lowered ∙ ap (λ d. lower least (Some (fault_at reasons.WrongEnd r.at d))) c.as_str-then-to-of_places.ensures))
    c.keep_least_at-then-to-of_places.ensures.lower

pub returns : goal.returns
returns c n o counts to =
    right_target n o c.args.place_refs counts c.args.of_places c.args.reference.now c.args.target to c.args.least.now c.in-Some.to (not_apart c.in-Some.to c.args.of_places c.if-to-of_places.false) (sym c.in-Some.is ∙ c.side.ensures)
