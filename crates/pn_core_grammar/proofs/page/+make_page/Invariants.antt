use Rattle.std.proofs.Common.{◌≡◌, ◌+◌, ◌*◌, take}
use Rattle.pn_tree.specs.Depth.{depth_of}
use Rattle.pn_tree.specs.Views.{element_of}
use Rattle.pn_spelling.specs.Parts.{elements_among}
use Rattle.pn_core_grammar.specs.Pages.{parts_among}
use Rattle.pn_core_grammar.proofs.page.+make_page.Given as goal

abbrev pub decreases-add : goal.decreases-add
decreases-add l = 4 * depth_of (element_of l.view) + 3

abbrev pub decreases-add_page : goal.decreases-add_page
decreases-add_page l = 4 * depth_of (element_of l.view) + 2

abbrev pub decreases-make_page : goal.decreases-make_page
decreases-make_page l = 4 * depth_of (element_of l.view) + 1

abbrev pub decreases-page_parts : goal.decreases-page_parts
decreases-page_parts l = 4 * depth_of (element_of l.view)

abbrev pub invariant-page_parts-loop-i : goal.invariant-page_parts-loop-i
invariant-page_parts-loop-i l = l.parts ≡ parts_among (elements_among (take l.i (element_of l.view).kids))
