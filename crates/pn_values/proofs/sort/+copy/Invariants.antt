use Rattle.std.proofs.Common.{◌≡◌, take}
use Rattle.pn_values.proofs.sort.+copy.Given as goal

abbrev pub invariant-copy_all-loop-sort : goal.invariant-copy_all-loop-sort
invariant-copy_all-loop-sort l = l.all ≡ take l.sort-index l.sorts
