use Rattle.std.proofs.Common.{◌≡◌, Err, ap}
use Rattle.pn_faults.specs.declared.fault.Refusal.TheVariants as Refusal
use Rattle.pn_checks.proofs.DistinctLemmas.{linked_declarations_are_distinct}
use Rattle.pn_checks.proofs.judging.make_parts.Goals as goal

pub declare-requires : goal.declare-requires
declare-requires c = linked_declarations_are_distinct c.args.tree.now c.args.flat.now c.requires.linked

pub returns-in-Err-mark-clause-least : goal.returns-in-Err-mark-clause-least
returns-in-Err-mark-clause-least c f is rises =
    let same : c.in-Err-mark.refusal ≡ Refusal.Fault f = cc in
    c.in-Err-mark.ensures.least f (ap (λ r. Err r) same) rises
