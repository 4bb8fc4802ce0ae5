use Rattle.std.proofs.Common.{take}
use Rattle.pn_eval.specs.Values.{HaveValues}
use Rattle.pn_eval.proofs.walk.+walk.Given as goal

abbrev pub invariant-walk_all-loop-term : goal.invariant-walk_all-loop-term
invariant-walk_all-loop-term l = HaveValues l.decls l.vars l.values (take l.term-index l.terms) l.outcomes.items
