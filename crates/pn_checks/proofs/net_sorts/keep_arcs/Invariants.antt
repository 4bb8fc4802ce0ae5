use Rattle.std.proofs.Common.{take}
use Rattle.pn_faults.specs.Walks.{KeepsLeast, StandsInSome}
use Rattle.pn_checks.specs.Sorts.{KnowsDeclared, ArcStands}
use Rattle.pn_checks.proofs.net_sorts.keep_arcs.Given as goal

abbrev pub invariant-loop-arc : goal.invariant-loop-arc
invariant-loop-arc l = KeepsLeast (StandsInSome (ArcStands l.decls) (take l.arc-index l.arcs)) l.initial.least l.least × KnowsDeclared l.decls l.least
