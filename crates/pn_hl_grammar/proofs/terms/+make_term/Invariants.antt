use Rattle.std.proofs.Common.{◌≡◌, ◌+◌, ◌*◌, ◌++◌, map, drop}
use Rattle.pn_tree.specs.Depth.{depth_of}
use Rattle.pn_tree.specs.Views.{element_of}
use Rattle.pn_spelling.specs.Parts.{child_elements, elements_among}
use Rattle.pn_spelling.specs.ReadTerms.{term_in}
use Rattle.pn_hl_grammar.proofs.terms.+make_term.Given as goal

abbrev pub invariant-make_arguments-loop-i : goal.invariant-make_arguments-loop-i
invariant-make_arguments-loop-i l = map term_in (child_elements (element_of l.view)) ≡ l.all ++ map term_in (elements_among (drop l.i (element_of l.view).kids))

abbrev pub decreases-make_term : goal.decreases-make_term
decreases-make_term l = 5 * depth_of (element_of l.view) + 4

abbrev pub decreases-make_node : goal.decreases-make_node
decreases-make_node l = 5 * depth_of (element_of l.view) + 3

abbrev pub decreases-make_partition_of : goal.decreases-make_partition_of
decreases-make_partition_of l = 5 * depth_of (element_of l.view) + 2

abbrev pub decreases-make_arguments : goal.decreases-make_arguments
decreases-make_arguments l = 5 * depth_of (element_of l.view) + 1

abbrev pub decreases-make_argument : goal.decreases-make_argument
decreases-make_argument l = 5 * depth_of (element_of l.view) + 1

abbrev pub decreases-make_inner_term : goal.decreases-make_inner_term
decreases-make_inner_term l = 5 * depth_of (element_of l.view)
