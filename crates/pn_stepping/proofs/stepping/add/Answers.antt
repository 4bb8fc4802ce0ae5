use Rattle.std.proofs.Common.{◌+◌, ◌<◌, ap, subst}
use Rattle.std.proofs.Common.{Err}
use Rattle.pn_bag.specs.Counts.{count_of}
use Rattle.pn_bag.specs.declared.TheConstants.{MAX_COUNT}
use Rattle.pn_net.specs.Orders.{mode_cmp}
use Rattle.pn_stepping.proofs.StepLemmas.{no_sum_at}
use Rattle.pn_stepping.proofs.stepping.add.Goals as goal

pub returns-in-Err-TooLarge-clause-over : goal.returns-in-Err-TooLarge-clause-over
returns-in-Err-TooLarge-clause-over c =
    let over = c.in-Err-TooLarge.ensures.too_large.0 (ap Err c.in-Err-TooLarge.field-0-is) in
    no_sum_at c.args.sum.now c.args.counted.now c.too_large.result c.is_bag.ensures (subst (λ m. MAX_COUNT < count_of mode_cmp c.args.sum.now m + c.args.counted.now.count) c.in-Ok.ensures over) c.too_large.ensures
