use Rattle.std.proofs.Common.{◌≡◌, take}
use Rattle.std.specs.List.{flat_map}
use Rattle.pn_faults.specs.Least.{least_fault, lower}
use Rattle.pn_resolve.specs.Listing.{value_faults}
use Rattle.pn_resolve.proofs.faults.keep_values.Given as goal

abbrev pub invariant-loop-value : goal.invariant-loop-value
invariant-loop-value l = l.least ≡ lower l.fn.least (least_fault (flat_map value_faults (take l.value-index l.values)))
