use Rattle.std.proofs.Common.{◌≡◌, map, take}
use Rattle.std.specs.List.{flat_map}
use Rattle.pn_partitions.specs.Tables.{places_in, IsFilled}
use Rattle.pn_partitions.proofs.table.enter_elements.Given as goal

abbrev pub invariant-loop-element : goal.invariant-loop-element
invariant-loop-element l = (l.number ≡ l.element-index)
    × IsFilled (map (places_in l.index l.base) l.elements) (flat_map (places_in l.index l.base) (take l.element-index l.elements)) l.table
