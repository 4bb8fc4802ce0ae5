use Rattle.std.proofs.Common.{length, ap, arith}
use Rattle.pn_cycles.proofs.Rows.{length-rows_of}
use Rattle.pn_cycles.proofs.graph.Graph.len.Goals as goal

pub returns : goal.returns
returns c = omega (arith, length-rows_of c.self.inside.starts.items c.self.inside.ends.items, ap length c.self.view_is)
