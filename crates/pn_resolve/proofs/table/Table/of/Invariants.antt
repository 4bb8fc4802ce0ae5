use Rattle.pn_resolve.proofs.TableLemmas.{Progress}
use Rattle.pn_resolve.proofs.table.Table.of.Given as goal

abbrev pub invariant-loop-place : goal.invariant-loop-place
invariant-loop-place l = Progress l.items l.place-items l.place-index l.extents.items l.sorts
