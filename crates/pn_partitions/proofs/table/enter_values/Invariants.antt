use Rattle.std.proofs.Common.{◌≡◌, ℕ, List, ◌++◌, Option, Some, map, take}
use Rattle.std.specs.List.{slice_get}
use Rattle.pn_partitions.specs.Tables.{place_of, IsFilled}
use Rattle.pn_partitions.proofs.table.enter_values.Given as goal

abbrev pub invariant-loop-value : goal.invariant-loop-value
invariant-loop-value l = (lists : List (List (Option ℕ))) (listed : List (Option ℕ)) → slice_get lists l.number ≡ Some (map (place_of l.index l.base) l.values)
    → IsFilled lists listed l.initial.table → IsFilled lists (listed ++ map (place_of l.index l.base) (take l.value-index l.values)) l.table
