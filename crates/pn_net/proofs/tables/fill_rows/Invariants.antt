use Rattle.std.proofs.Common.{take}
use Rattle.pn_net.specs.Typed.{AreRowsBy}
use Rattle.pn_net.proofs.tables.fill_rows.Given as goal

abbrev pub invariant-loop-k : goal.invariant-loop-k
invariant-loop-k l = AreRowsBy l.decls l.transitions (take l.k l.arcs) l.rows
