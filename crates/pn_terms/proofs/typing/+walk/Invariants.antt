use Rattle.std.proofs.Common.{take, cond, Some, None}
use Rattle.pn_faults.specs.Walks.{IsWalked, StandsInSome}
use Rattle.pn_terms.specs.Sorts.{HaveSorts}
use Rattle.pn_terms.specs.Standing.{StandsIn}
use Rattle.pn_terms.proofs.typing.+walk.Given as goal

abbrev pub invariant-walk_all-loop-term : goal.invariant-walk_all-loop-term
invariant-walk_all-loop-term l = IsWalked (HaveSorts l.decls (take l.term-index l.terms)) (StandsInSome (StandsIn l.decls) (take l.term-index l.terms)) (cond l.is_whole (Some l.sorts) None) l.fn.least l.least
