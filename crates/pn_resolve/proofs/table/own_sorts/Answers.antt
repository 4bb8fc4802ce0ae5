use Rattle.std.proofs.Common.{◌+◌, None, sym, subst, arith}
use Rattle.pn_resolve.specs.Tables.{own_sort}
use Rattle.pn_resolve.proofs.MakeLemmas.{Made, next_made, all_made}
use Rattle.pn_resolve.proofs.table.own_sorts.Goals as goal

pub loop-place-preserved : goal.loop-place-preserved
loop-place-preserved c = subst (Made c.args.items.now own_sort None (c.loop-place.place + 1)) (sym c.in_ok-push.ensures)
    (next_made c.args.items.now own_sort None c.loop-place.sorts c.loop-place.place c.index-items-place.result c.own_sort.result c.loop-place.invariant c.loop-place-test.true c.index-items-place.is c.own_sort.ensures)

pub returns-clause-own : goal.returns-clause-own
returns-clause-own c = all_made c.args.items.now own_sort None c.loop-place.place c.loop-place.sorts c.loop-place.invariant (omega arith)
