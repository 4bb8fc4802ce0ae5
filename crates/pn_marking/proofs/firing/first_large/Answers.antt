use Rattle.pn_marking.specs.Flows.{IsSmallEnough}
use Rattle.pn_marking.proofs.FireLemmas.{first_but}
use Rattle.pn_marking.proofs.firing.first_large.Goals as goal

pub returns-then-left_of-gt-MAX_COUNT-clause-some : goal.returns-then-left_of-gt-MAX_COUNT-clause-some
returns-then-left_of-gt-MAX_COUNT-clause-some c = first_but IsSmallEnough c.args.flows.now c.loop-flow.flow-index c.flow-item.result c.loop-flow-test.true c.flow-item.is c.loop-flow.invariant
