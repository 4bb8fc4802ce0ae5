use Rattle.std.proofs.Common.{◌≡◌, take}
use Rattle.std.specs.List.{flat_map}
use Rattle.pn_faults.specs.Least.{least_fault, lower}
use Rattle.pn_resolve.specs.Listing.{element_faults}
use Rattle.pn_resolve.proofs.faults.keep_elements.Given as goal

abbrev pub invariant-loop-element : goal.invariant-loop-element
invariant-loop-element l = l.least ≡ lower l.fn.least (least_fault (flat_map element_faults (take l.element-index l.elements)))
