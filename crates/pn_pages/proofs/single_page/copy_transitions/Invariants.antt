use Rattle.std.proofs.Common.{◌≡◌, take}
use Rattle.pn_pages.proofs.single_page.copy_transitions.Given as goal

abbrev pub invariant-loop-transition : goal.invariant-loop-transition
invariant-loop-transition l = l.all ≡ take l.transition-index l.transitions
