use Rattle.std.proofs.Common.{take}
use Rattle.pn_bag.specs.Counts.{Every}
use Rattle.pn_marking.specs.Flows.{IsSmallEnough}
use Rattle.pn_marking.proofs.firing.first_large.Given as goal

abbrev pub invariant-loop-flow : goal.invariant-loop-flow
invariant-loop-flow l = Every IsSmallEnough (take l.flow-index l.flows)
