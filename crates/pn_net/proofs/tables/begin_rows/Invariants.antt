use Rattle.std.proofs.Common.{take, []}
use Rattle.pn_net.specs.Typed.{AreRowsBy}
use Rattle.pn_net.proofs.tables.begin_rows.Given as goal

abbrev pub invariant-loop-transition : goal.invariant-loop-transition
invariant-loop-transition l = AreRowsBy l.decls (take l.transition-index l.transitions) [] l.rows.items
