use Rattle.std.proofs.Common.{◌≡◌, Err, ap, refl}
use Rattle.pn_faults.specs.declared.fault.Refusal.TheVariants as Refusal
use Rattle.pn_checks.specs.Verdicts.{in_tree}
use Rattle.pn_checks.proofs.LinkLemmas.{is_typed}
use Rattle.pn_checks.proofs.judging.check.Goals as goal

pub finish-requires-clause-typed : goal.finish-requires-clause-typed
finish-requires-clause-typed c = is_typed c.args.tree.now c.args.flat c.requires.linked (c.in-Ok.ensures.typed refl) (λ f stands. c.in-Ok.ensures.accepted refl f (in_tree f stands))

pub returns-in-Err-clause-least : goal.returns-in-Err-clause-least
returns-in-Err-clause-least c f is rises =
    let same : c.in-Err.refusal ≡ Refusal.Fault f = cc in
    c.in-Err.ensures.least f (ap (λ r. Err r) same) rises
