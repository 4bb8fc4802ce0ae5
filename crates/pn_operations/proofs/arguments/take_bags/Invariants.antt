use Rattle.std.proofs.Common.{◌≡◌, ◌++◌, map, length, reverse}
use Rattle.pn_operations.specs.Outcomes.{bag_in}
use Rattle.pn_operations.proofs.arguments.take_bags.Given as goal

abbrev pub decreases-loop-outcome : goal.decreases-loop-outcome
decreases-loop-outcome l = length l.args.items

abbrev pub invariant-loop-outcome : goal.invariant-loop-outcome
invariant-loop-outcome l = l.bags.items ++ map bag_in (reverse l.args.items) ≡ map bag_in (reverse l.initial.args.items)
