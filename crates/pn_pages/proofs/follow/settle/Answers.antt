use Rattle.std.proofs.Common.{subst, length, ◌≤◌}
use Rattle.pn_pages.proofs.SettleLemmas.{goals_settled, progress_stored}
use Rattle.pn_pages.proofs.follow.settle.Goals as goal

pub loop-i-preserved : goal.loop-i-preserved
loop-i-preserved c =
    let order = c.args.order.now in
    progress_stored c.args.place_refs c.args.targets.now order.on_cycle order.nodes c.requires.tells c.requires.each c.requires.behind
    c.loop-i.i c.loop-i.goals c.nodes-nodes.result.now c.settled.result c.nodes-nodes.ensures c.loop-i-test.true c.settled.ensures c.loop-i.invariant

pub returns : goal.returns
returns c =
    let order = c.args.order.now in
    goals_settled c.args.place_refs c.args.targets.now order.on_cycle order.nodes c.requires.tells c.requires.each c.requires.behind
    c.loop-i.i c.loop-i.goals (subst (λ xs. length xs ≤ c.loop-i.i) c.nodes-nodes.ensures c.loop-i-test.false) c.loop-i.invariant
