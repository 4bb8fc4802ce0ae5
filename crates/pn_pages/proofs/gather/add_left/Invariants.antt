use Rattle.std.proofs.Common.{◌≡◌, ◌++◌, length, reverse}
use Rattle.pn_net.specs.Objects.{declared_by}
use Rattle.pn_pages.proofs.gather.add_left.Given as goal

abbrev pub decreases-loop-label : goal.decreases-loop-label
decreases-loop-label l = length l.left

abbrev pub invariant-loop-label : goal.invariant-loop-label
invariant-loop-label l = l.all ++ declared_by (reverse l.left) ≡ l.initial.all ++ declared_by (reverse l.initial.left)
