use Rattle.std.proofs.Common.{length}
use Rattle.pn_marking.proofs.sums.+sum.Given as goal

abbrev pub decreases-sum : goal.decreases-sum
decreases-sum l = length l.entries.now
