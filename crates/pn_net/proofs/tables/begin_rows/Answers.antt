use Rattle.std.proofs.Common.{sym, add-one}
use Rattle.std.proofs.Math.Seq.{take-suc}
use Rattle.pn_net.proofs.RowLemmas.{rows_push}
use Rattle.pn_net.proofs.tables.begin_rows.Goals as goal

pub loop-transition-preserved : goal.loop-transition-preserved
loop-transition-preserved c = rw (add-one, take-suc c.args.transitions.now c.loop-transition.transition-index c.transition-item.result c.loop-transition-test.true, c.in_ok-push.ensures.items, sym c.transition-item.is)
    (rows_push c.args.decls.now _ 0 _ c.loop-transition.rows.items c.transition-item.result c.in_ok-begin_row.field-0 c.loop-transition.invariant c.in_ok-begin_row.ensures)
