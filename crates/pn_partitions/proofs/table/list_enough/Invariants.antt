use Rattle.std.proofs.Common.{◌≡◌, ◌-◌, sum, map, take}
use Rattle.pn_partitions.specs.Tables.{values_listed}
use Rattle.pn_partitions.proofs.table.list_enough.Given as goal

abbrev pub invariant-loop-element : goal.invariant-loop-element
invariant-loop-element l = l.left ≡ l.size - sum (map values_listed (take l.element-index l.elements))
