use Rattle.std.proofs.Common.{◌≡◌, take}
use Rattle.pn_marked.proofs.marked.copy_all.Given as goal

abbrev pub invariant-loop-term : goal.invariant-loop-term
invariant-loop-term l = l.all ≡ take l.term-index l.terms
