use Rattle.std.proofs.Common.{◌≡◌, drop}
use Rattle.std.specs.Cmp.Lexicographic.{slice_cmp}
use Rattle.pn_values.specs.Order.{value_cmp}
use Rattle.pn_values.proofs.order.+compare.Given as goal

abbrev pub invariant-compare_all-loop-i : goal.invariant-compare_all-loop-i
invariant-compare_all-loop-i l = slice_cmp value_cmp (drop l.i l.ones) (drop l.i l.twos) ≡ slice_cmp value_cmp l.ones l.twos
