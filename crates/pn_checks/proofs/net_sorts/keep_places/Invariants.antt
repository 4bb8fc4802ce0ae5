use Rattle.std.proofs.Common.{take}
use Rattle.pn_faults.specs.Walks.{KeepsLeast, StandsInSome}
use Rattle.pn_checks.specs.Sorts.{KnowsDeclared, PlaceStands}
use Rattle.pn_checks.proofs.net_sorts.keep_places.Given as goal

abbrev pub invariant-loop-place : goal.invariant-loop-place
invariant-loop-place l = KeepsLeast (StandsInSome (PlaceStands l.decls) (take l.place-index l.places)) l.initial.least l.least × KnowsDeclared l.decls l.least
