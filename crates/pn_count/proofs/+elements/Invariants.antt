use Rattle.pn_tree.specs.Depth.{depth_of}
use Rattle.pn_tree.specs.Views.{element_of}
use Rattle.pn_count.proofs.+elements.Given as goal

abbrev pub decreases-elements : goal.decreases-elements
decreases-elements l = depth_of (element_of l.view)

abbrev pub invariant-loop-i : goal.invariant-loop-i
invariant-loop-i l = Unit {0}
