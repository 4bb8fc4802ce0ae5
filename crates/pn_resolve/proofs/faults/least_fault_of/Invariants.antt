use Rattle.pn_resolve.specs.Telling.{known_by}
use Rattle.pn_resolve.proofs.ListingLemmas.{FaultsSoFar}
use Rattle.pn_resolve.proofs.faults.least_fault_of.Given as goal

abbrev pub invariant-loop-place : goal.invariant-loop-place
invariant-loop-place l = FaultsSoFar l.items (known_by l.index l.table.extents) l.cycles.items l.place l.least
