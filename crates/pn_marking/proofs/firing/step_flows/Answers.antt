use Rattle.pn_facts.proofs.Results.{if_ok}
use Rattle.pn_marking.specs.Flows.{AreMerged}
use Rattle.pn_marking.specs.Moves.{AreStepFlows}
use Rattle.pn_marking.proofs.MoveLemmas.{step_flows_are}
use Rattle.pn_marking.proofs.firing.step_flows.Goals as goal

pub returns : goal.returns
returns c =
    if_ok (λ all. AreMerged c.in_ok-has.has.items c.in_ok-moves.moves.items all.items) (λ all. AreStepFlows c.args.net.now c.args.marking.now c.args.modes.now all.items) c.merge.result
    (λ all merged. step_flows_are c.args.net.now c.args.marking.now c.args.modes.now c.in_ok-has.has.items c.in_ok-moves.moves.items all.items c.in_ok-has.ensures.bag c.in_ok-has.ensures.tokens c.in_ok-moves.ensures merged) c.merge.ensures
