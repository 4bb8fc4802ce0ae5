use Rattle.std.proofs.Common.{◌≡◌, ◌+◌, ◌*◌, take}
use Rattle.pn_tree.specs.Building.{at_innermost}
use Rattle.pn_tree.specs.Copies.{with_kids}
use Rattle.pn_tree.specs.Views.{element_of}
use Rattle.pn_tree.specs.Depth.{depth_of}
use Rattle.pn_tree.specs.Walks.{kid_size}
use Rattle.pn_tree.proofs.copy.+copy.Given as goal

abbrev pub invariant-copy_kids-loop-i : goal.invariant-copy_kids-loop-i
invariant-copy_kids-loop-i l = l.builder ≡ at_innermost (with_kids (take l.i (element_of l.part).kids)) l.initial.builder

abbrev pub decreases-copy_element : goal.decreases-copy_element
decreases-copy_element l = 3 * depth_of (element_of l.part) + 2

abbrev pub decreases-copy_kids : goal.decreases-copy_kids
decreases-copy_kids l = 3 * depth_of (element_of l.part) + 1

abbrev pub decreases-copy_kid : goal.decreases-copy_kid
decreases-copy_kid l = kid_size l.kid
