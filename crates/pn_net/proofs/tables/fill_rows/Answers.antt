use Rattle.std.proofs.Common.{◌<◌, ◌∷◌, ◌++◌, [], length, sym, subst, take, add-one, arith}
use Rattle.std.proofs.Math.Seq.{take-suc}
use Rattle.std.specs.List.{Contains}
use Rattle.pn_net.proofs.RowLemmas.{contains_get, length_front, row_other, rows_length, rows_set}
use Rattle.pn_net.proofs.tables.fill_rows.Goals as goal

pub bounds-rows-arc : goal.bounds-rows-arc
bounds-rows-arc c =
    let a = c.index-arcs-k.result in
    let there : Contains c.args.arcs.now a = subst (Contains c.args.arcs.now) (sym c.index-arcs-k.is) (contains_get c.args.arcs.now c.loop-k.k a c.loop-k-test.true) in
    subst (λ n. a.transition < n) (sym (rows_length c.args.decls.now (take c.loop-k.k c.args.arcs.now) 0 c.args.transitions.now c.loop-k.rows c.loop-k.invariant)) (c.requires.within a there)

pub loop-k-preserved : goal.loop-k-preserved
loop-k-preserved c =
    let arcs = c.args.arcs.now in
    let a = c.index-arcs-k.result in
    let before = take c.loop-k.k arcs in
    let items = c.args.decls.now in
    let there : Contains arcs a = subst (Contains arcs) (sym c.index-arcs-k.is) (contains_get arcs c.loop-k.k a c.loop-k-test.true) in
    let small : a.transition < length c.loop-k.rows = subst (λ n. a.transition < n) (sym (rows_length items before 0 c.args.transitions.now c.loop-k.rows c.loop-k.invariant)) (c.requires.within a there) in
    rw (add-one, take-suc arcs c.loop-k.k a c.loop-k-test.true, sym c.index-arcs-k.is)
    (rows_set items before (before ++ a ∷ []) a.transition (λ condition row t differs old. row_other items condition before a t row differs old) c.fill_row.new.row c.index-rows-arc.result 0 a.transition c.args.transitions.now c.loop-k.rows c.loop-k.invariant small (omega arith)
    (λ condition old. c.in_ok-fill_row.ensures condition before (length_front arcs c.loop-k.k c.loop-k-test.true) old))
