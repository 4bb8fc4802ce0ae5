use Rattle.std.proofs.Common.{take}
use Rattle.pn_bag.specs.Counts.{IsSame}
use Rattle.pn_net.specs.Orders.{mode_cmp}
use Rattle.pn_stepping.specs.Telling.{entries_of}
use Rattle.pn_stepping.proofs.stepping.add_all.Given as goal

abbrev pub invariant-loop-i : goal.invariant-loop-i
invariant-loop-i l = IsSame mode_cmp l.sum (take l.i (entries_of l.entries))
