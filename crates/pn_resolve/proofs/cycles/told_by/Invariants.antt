use Rattle.pn_resolve.proofs.CycleLemmas.{CyclesSoFar}
use Rattle.pn_resolve.proofs.cycles.told_by.Given as goal

abbrev pub invariant-loop-place : goal.invariant-loop-place
invariant-loop-place l = CyclesSoFar l.items l.place l.told.items
