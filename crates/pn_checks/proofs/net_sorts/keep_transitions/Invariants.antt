use Rattle.std.proofs.Common.{take}
use Rattle.pn_faults.specs.Walks.{KeepsLeast, StandsInSome}
use Rattle.pn_checks.specs.Sorts.{KnowsDeclared, TransitionStands}
use Rattle.pn_checks.proofs.net_sorts.keep_transitions.Given as goal

abbrev pub invariant-loop-transition : goal.invariant-loop-transition
invariant-loop-transition l = KeepsLeast (StandsInSome (TransitionStands l.decls) (take l.transition-index l.transitions)) l.initial.least l.least × KnowsDeclared l.decls l.least
