use Rattle.pn_marking.specs.Flows.{IsEnough}
use Rattle.pn_marking.proofs.FireLemmas.{first_but}
use Rattle.pn_marking.proofs.firing.first_short.Goals as goal

pub returns-then-flow-clause-some : goal.returns-then-flow-clause-some
returns-then-flow-clause-some c = first_but IsEnough c.args.flows.now c.loop-flow.flow-index c.flow-item.result c.loop-flow-test.true c.flow-item.is c.loop-flow.invariant
