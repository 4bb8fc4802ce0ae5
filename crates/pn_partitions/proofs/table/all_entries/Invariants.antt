use Rattle.std.proofs.Common.{◌≡◌, Some, map, take}
use Rattle.pn_partitions.proofs.table.all_entries.Given as goal

abbrev pub invariant-loop-entry : goal.invariant-loop-entry
invariant-loop-entry l = map Some l.entries.items ≡ take l.entry-index l.table
