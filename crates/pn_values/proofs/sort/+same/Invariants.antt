use Rattle.std.proofs.Common.{◌≡◌, take}
use Rattle.pn_values.proofs.sort.+same.Given as goal

abbrev pub invariant-all_same-loop-i : goal.invariant-all_same-loop-i
invariant-all_same-loop-i l = take l.i l.sorts ≡ take l.i l.others
