use Rattle.std.proofs.Common.{length}
use Rattle.pn_marking.proofs.totals.+total.Given as goal

abbrev pub decreases-total : goal.decreases-total
decreases-total l = length l.numbers.now
