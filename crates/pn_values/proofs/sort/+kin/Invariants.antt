use Rattle.std.proofs.Common.{◌≡◌, take, map}
use Rattle.pn_values.specs.Kin.{kin_of}
use Rattle.pn_values.proofs.sort.+kin.Given as goal

abbrev pub invariant-kin_of_all-loop-sort : goal.invariant-kin_of_all-loop-sort
invariant-kin_of_all-loop-sort l = l.all ≡ map kin_of (take l.sort-index l.sorts)
