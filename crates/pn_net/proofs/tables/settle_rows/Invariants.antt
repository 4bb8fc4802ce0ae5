use Rattle.std.proofs.Common.{take}
use Rattle.pn_net.specs.Typed.{AreRowsBy, AreSettled}
use Rattle.pn_net.proofs.tables.settle_rows.Given as goal

abbrev pub invariant-loop-i : goal.invariant-loop-i
invariant-loop-i l = AreRowsBy l.decls l.transitions l.arcs l.rows × AreSettled (take l.i l.rows)
