use Rattle.std.proofs.Common.{None}
use Rattle.pn_resolve.specs.Tables.{own_sort}
use Rattle.pn_resolve.proofs.MakeLemmas.{Made}
use Rattle.pn_resolve.proofs.table.own_sorts.Given as goal

abbrev pub invariant-loop-place : goal.invariant-loop-place
invariant-loop-place l = Made l.items own_sort None l.place l.sorts
