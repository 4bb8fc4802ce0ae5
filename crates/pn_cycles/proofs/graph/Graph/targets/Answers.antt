use Rattle.std.proofs.Common.{length, ap, arith}
use Rattle.pn_cycles.proofs.Rows.{length-rows_of}
use Rattle.pn_cycles.proofs.graph.Graph.targets.Goals as goal

pub targets_of-requires-clause-node : goal.targets_of-requires-clause-node
targets_of-requires-clause-node c = omega (arith, length-rows_of c.self.inside.starts.items c.self.inside.ends.items, ap length c.self.view_is, c.deref.ensures.len)
