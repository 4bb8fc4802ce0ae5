use Rattle.std.proofs.Common.{◌+◌, sym, subst, arith}
use Rattle.pn_resolve.specs.declared.extent.Extent.TheVariants.{NoSort}
use Rattle.pn_resolve.specs.Tables.{own_extent}
use Rattle.pn_resolve.proofs.MakeLemmas.{Made, next_made, all_made}
use Rattle.pn_resolve.proofs.table.own_extents.Goals as goal

pub loop-place-preserved : goal.loop-place-preserved
loop-place-preserved c = subst (Made c.args.items.now own_extent NoSort (c.loop-place.place + 1)) (sym c.in_ok-push.ensures.items)
    (next_made c.args.items.now own_extent NoSort c.loop-place.extents.items c.loop-place.place c.index-items-place.result c.own_extent.result c.loop-place.invariant c.loop-place-test.true c.index-items-place.is c.own_extent.ensures)

pub returns-clause-own : goal.returns-clause-own
returns-clause-own c = all_made c.args.items.now own_extent NoSort c.loop-place.place c.loop-place.extents.items c.loop-place.invariant (omega arith)
