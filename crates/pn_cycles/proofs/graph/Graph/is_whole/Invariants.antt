use Rattle.std.proofs.Common.{ℕ, ◌<◌, length}
use Rattle.pn_cycles.specs.Graphs.{IsEdge}
use Rattle.pn_cycles.proofs.graph.Graph.is_whole.Given as goal

abbrev pub invariant-loop-node : goal.invariant-loop-node
invariant-loop-node l = (start end : ℕ) → start < l.node → IsEdge l.self start end → end < length l.self
