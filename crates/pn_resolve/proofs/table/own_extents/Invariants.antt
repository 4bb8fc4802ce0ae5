use Rattle.pn_resolve.specs.declared.extent.Extent.TheVariants.{NoSort}
use Rattle.pn_resolve.specs.Tables.{own_extent}
use Rattle.pn_resolve.proofs.MakeLemmas.{Made}
use Rattle.pn_resolve.proofs.table.own_extents.Given as goal

abbrev pub invariant-loop-place : goal.invariant-loop-place
invariant-loop-place l = Made l.items own_extent NoSort l.place l.extents.items
