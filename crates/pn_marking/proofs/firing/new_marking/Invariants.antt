use Rattle.std.proofs.Common.{take}
use Rattle.pn_marking.specs.Flows.{AreLeft}
use Rattle.pn_marking.proofs.firing.new_marking.Given as goal

-- what is left of the tokens so far
abbrev pub invariant-loop-flow : goal.invariant-loop-flow
invariant-loop-flow l = AreLeft (take l.flow-index l.flows) l.marking
