use Rattle.std.proofs.Common.{◌≡◌, ℕ, ◌<◌, length, arith}
use Rattle.pn_cycles.specs.declared.search.Mark.TheVariants.{New}
use Rattle.pn_cycles.specs.Searches.{mark_of}
use Rattle.pn_cycles.proofs.Telling.{tells_nodes, tells_order, tells_off_cycles, tells_cycles}
use Rattle.pn_cycles.proofs.order.order_of.Goals as goal
use Rattle.pn_cycles.proofs.order.order_of.Goals.{After-loop-root}

visited : (c : After-loop-root) → (node : ℕ) → node < length c.args.graph.now → mark_of c.loop-root.search.marks.items node ≡ New → ⊥
visited c node within = c.loop-root.invariant.visited node (omega (arith, c.len-root-end.ensures, c.loop-root-test.false))

pub returns-clause-on_cycle : goal.returns-clause-on_cycle
returns-clause-on_cycle c = tells_cycles _ _ _ _ _ _ _ c.loop-root.invariant.search (omega (arith, c.loop-root.invariant.empty)) (visited (goal.at.returns-clause-on_cycle c).After-loop-root)

pub returns-clause-nodes : goal.returns-clause-nodes
returns-clause-nodes c = tells_nodes _ _ _ _ _ _ _ c.loop-root.invariant.search (omega (arith, c.loop-root.invariant.empty)) (visited (goal.at.returns-clause-nodes c).After-loop-root)

pub returns-clause-order : goal.returns-clause-order
returns-clause-order c = tells_order _ _ _ _ _ _ _ c.loop-root.invariant.search (omega (arith, c.loop-root.invariant.empty)) (visited (goal.at.returns-clause-order c).After-loop-root)

pub returns-clause-off_cycles : goal.returns-clause-off_cycles
returns-clause-off_cycles c = tells_off_cycles _ _ _ _ _ _ _ c.loop-root.invariant.search (omega (arith, c.loop-root.invariant.empty)) (visited (goal.at.returns-clause-off_cycles c).After-loop-root)
