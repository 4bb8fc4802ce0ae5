use Rattle.std.proofs.Common.{rules}
use Rattle.pn_partitions.proofs.table.range_place.Goals as goal
use Rattle.pn_partitions.proofs.table.range_place.Goals.{else-start-first-via-then-start-first+then-end-last+then-first-value+else-value-last, else-start-first-via-then-start-first+then-end-last+else-first-value, else-start-first-via-then-start-first+else-end-last, else-start-first-via-else-start-first}

pub returns-else-start-first : goal.returns-else-start-first
returns-else-start-first c =
    elim c.else-start-first.branch [
      | else-start-first-via-then-start-first+then-end-last+then-first-value+else-value-last w ↦ search rules
      | else-start-first-via-then-start-first+then-end-last+else-first-value w ↦ search rules
      | else-start-first-via-then-start-first+else-end-last w ↦ search rules
      | else-start-first-via-else-start-first w ↦ search rules
    ]
