use Rattle.std.proofs.Common.{Some, ap, sym, ◌∙◌}
use Rattle.pn_faults.specs.declared.reason.Reason.TheVariants as reasons
use Rattle.pn_faults.specs.Least.{lower}
use Rattle.pn_faults.specs.Order.{fault_at}
use Rattle.pn_net.proofs.RowLemmas.{on_ok_then}
use Rattle.pn_pages.proofs.ArcLemmas.{differ_by, equal_by, right_ends, unknown_source, unknown_target, wrong_end}
use Rattle.pn_pages.proofs.linking.tell_arc.Goals as goal

pub returns-in_default : goal.returns-in_default
returns-in_default c =
    let least = c.args.least.now in
    let a = c.args.arc.now in
    on_ok_then c.keep_least_at.result _ _ (λ lowered n o counts from to.
    unknown_source n o c.args.place_refs counts a c.args.source c.args.target from to least c.keep_least_at.new.least (sym c.in_default.is ∙ c.side.ensures)
    (lowered ∙ ap (λ d. lower least (Some (fault_at reasons.UnknownEnd a.at d))) c.as_str.ensures))
    c.keep_least_at.ensures.lower

pub returns-in_default-side : goal.returns-in_default-side
returns-in_default-side c =
    let least = c.args.least.now in
    let a = c.args.arc.now in
    on_ok_then c.keep_least_at-in_default-side.result _ _ (λ lowered n o counts from to.
    unknown_target n o c.args.place_refs counts a c.args.source c.args.target from to least c.keep_least_at-in_default-side.new.least c.in-Some.from (sym c.in-Some.is ∙ c.side.ensures) (sym c.in_default-side.is ∙ c.side-2.ensures)
    (lowered ∙ ap (λ d. lower least (Some (fault_at reasons.UnknownEnd a.at d))) c.as_str-in_default-side.ensures))
    c.keep_least_at-in_default-side.ensures.lower

pub returns-then-from-to : goal.returns-then-from-to
returns-then-from-to c =
    let least = c.args.least.now in
    let a = c.args.arc.now in
    on_ok_then c.keep_least_at-then-from-to.result _ _ (λ lowered n o counts from to.
    wrong_end n o c.args.place_refs counts a c.args.source c.args.target from to least c.keep_least_at-then-from-to.new.least c.in-Some.from (sym c.in-Some.is ∙ c.side.ensures)
    (ap (λ b. Some b) (equal_by c.in-Some.from c.in-Some-side.to c.if-from-to.true) ∙ sym c.in-Some-side.is ∙ c.side-2.ensures)
    (lowered ∙ ap (λ d. lower least (Some (fault_at reasons.WrongEnd a.at d))) c.as_str-then-from-to.ensures))
    c.keep_least_at-then-from-to.ensures.lower

pub returns : goal.returns
returns c n o counts from to =
    right_ends n o c.args.place_refs counts c.args.arc.now c.args.source c.args.target from to c.args.least.now c.in-Some.from c.in-Some-side.to
    (differ_by c.in-Some.from c.in-Some-side.to c.if-from-to.false) (sym c.in-Some.is ∙ c.side.ensures) (sym c.in-Some-side.is ∙ c.side-2.ensures)
