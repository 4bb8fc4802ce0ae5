use Rattle.std.proofs.Common.{◌≡◌, ◌+◌, ◌*◌, drop}
use Rattle.std.specs.List.{find, flat_map}
use Rattle.pn_checks.specs.Told.{elements_at}
use Rattle.pn_net.specs.Documents.{is_constant_at}
use Rattle.pn_tree.specs.Depth.{depth_of}
use Rattle.pn_tree.specs.Views.{element_of}
use Rattle.pn_spelling.specs.Parts.{child_elements, elements_among}
use Rattle.pn_checks.proofs.told.+constants.Given as goal

abbrev pub decreases-constant_at : goal.decreases-constant_at
decreases-constant_at l = 3 * depth_of (element_of l.view) + 2

abbrev pub decreases-constant_in : goal.decreases-constant_in
decreases-constant_in l = 3 * depth_of (element_of l.view) + 1

abbrev pub decreases-constant_inside : goal.decreases-constant_inside
decreases-constant_inside l = 3 * depth_of (element_of l.view)

abbrev pub invariant-constant_inside-loop-i : goal.invariant-constant_inside-loop-i
invariant-constant_inside-loop-i l =
    find (is_constant_at l.offset) (flat_map elements_at (child_elements (element_of l.view))) ≡ find (is_constant_at l.offset) (flat_map elements_at (elements_among (drop l.i (element_of l.view).kids)))
