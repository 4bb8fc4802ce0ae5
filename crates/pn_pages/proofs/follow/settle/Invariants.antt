use Rattle.pn_pages.proofs.SettleLemmas.{Progress}
use Rattle.pn_pages.proofs.follow.settle.Given as goal

abbrev pub invariant-loop-i : goal.invariant-loop-i
invariant-loop-i l = Progress l.place_refs l.targets l.order.on_cycle l.order.nodes l.i l.goals
