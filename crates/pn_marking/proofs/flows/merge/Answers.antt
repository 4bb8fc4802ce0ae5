use Rattle.std.proofs.Common.{◌≡◌, ◌++◌, ◌∷◌, [], reverse, rules, arith}
use Rattle.pn_marking.proofs.FlowLemmas.{merged_next, order_left}
use Rattle.pn_marking.proofs.flows.merge.Goals as goal

pub take_greatest-requires-clause-left : goal.take_greatest-requires-clause-left
take_greatest-requires-clause-left c = order_left _ (reverse c.loop-flow.all.items) c.loop-flow.invariant.left

pub take_greatest-requires-clause-right : goal.take_greatest-requires-clause-right
take_greatest-requires-clause-right c = order_left _ (reverse c.loop-flow.all.items) c.loop-flow.invariant.right

pub loop-flow-preserved : goal.loop-flow-preserved
loop-flow-preserved c =
    let old = c.loop-flow.invariant in
    let items : c.push.new.self.items ≡ c.loop-flow.all.items ++ c.in-Some.flow ∷ [] = search rules in
    let next = merged_next _ _ _ _ _ _ c.loop-flow.all.items _ c.in-Some.flow (old.left, old.right, old.counts) c.in-Some.ensures.some (omega (arith, c.in-Some.ensures.shorter)) items in
    record { left = next.0; right = next.1; counts = next.2 }
