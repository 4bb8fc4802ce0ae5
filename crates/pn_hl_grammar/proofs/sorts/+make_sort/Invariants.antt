use Rattle.std.proofs.Common.{◌≡◌, ◌+◌, ◌*◌, ◌++◌, map, drop}
use Rattle.pn_tree.specs.Depth.{depth_of}
use Rattle.pn_tree.specs.Views.{element_of}
use Rattle.pn_spelling.specs.Parts.{child_elements, elements_among}
use Rattle.pn_spelling.specs.ReadSorts.{sort_read}
use Rattle.pn_hl_grammar.proofs.sorts.+make_sort.Given as goal

abbrev pub invariant-make_all-loop-i : goal.invariant-make_all-loop-i
invariant-make_all-loop-i l = map sort_read (child_elements (element_of l.view)) ≡ l.all ++ map sort_read (elements_among (drop l.i (element_of l.view).kids))

abbrev pub decreases-make_sort : goal.decreases-make_sort
decreases-make_sort l = 3 * depth_of (element_of l.view) + 2

abbrev pub decreases-make_node : goal.decreases-make_node
decreases-make_node l = 3 * depth_of (element_of l.view) + 1

abbrev pub decreases-make_inner_sort : goal.decreases-make_inner_sort
decreases-make_inner_sort l = 3 * depth_of (element_of l.view)

abbrev pub decreases-make_all : goal.decreases-make_all
decreases-make_all l = 3 * depth_of (element_of l.view)
