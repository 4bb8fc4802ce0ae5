use Rattle.std.proofs.Common.{◌<◌, length, refl, sym, subst, add-one, arith}
use Rattle.std.proofs.Math.Seq.{take-suc-set}
use Rattle.pn_net.proofs.RowLemmas.{row_settled, rows_set, settled_push}
use Rattle.pn_net.proofs.tables.settle_rows.Goals as goal

pub loop-i-preserved : goal.loop-i-preserved
loop-i-preserved c =
    let small : c.loop-i.i < length c.loop-i.rows = subst (λ n. c.loop-i.i < n) (sym c.loop-i.auto.rows) c.loop-i-test.true in (
      rows_set c.args.decls.now c.args.arcs.now c.args.arcs.now c.loop-i.i (λ condition row t differs is. is) _ c.index-rows-i.result 0 c.loop-i.i c.args.transitions.now c.loop-i.rows c.loop-i.invariant.0 small (omega arith)
          (λ condition. row_settled c.args.decls.now condition c.args.arcs.now c.loop-i.i _ _ refl c.settle.ensures.each),
      rw (add-one, take-suc-set c.loop-i.rows c.loop-i.i _ small) (settled_push _ _ c.loop-i.invariant.1 c.settle.ensures.ascending),
    )
