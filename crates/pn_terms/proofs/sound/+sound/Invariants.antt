use Rattle.std.proofs.Common.{take}
use Rattle.pn_faults.specs.Walks.{KeepsLeast, StandsInSome}
use Rattle.pn_terms.specs.Standing.{SortStandsIn}
use Rattle.pn_terms.proofs.sound.+sound.Given as goal

abbrev pub invariant-keep_all_sorts-loop-term : goal.invariant-keep_all_sorts-loop-term
invariant-keep_all_sorts-loop-term l = KeepsLeast (StandsInSome (SortStandsIn l.decls) (take l.term-index l.terms)) l.fn.least l.least
