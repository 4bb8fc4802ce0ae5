use Rattle.std.proofs.Common.{take}
use Rattle.pn_faults.specs.Walks.{KeepsLeast, StandsInSome}
use Rattle.pn_checks.specs.Sorts.{KnowsDeclared, SortsStandIn}
use Rattle.pn_checks.proofs.sorts.+sorts.Given as goal

abbrev pub invariant-keep_all_sorts-loop-term : goal.invariant-keep_all_sorts-loop-term
invariant-keep_all_sorts-loop-term l = KeepsLeast (StandsInSome (SortsStandIn l.decls) (take l.term-index l.terms)) l.fn.least l.least × KnowsDeclared l.decls l.least
