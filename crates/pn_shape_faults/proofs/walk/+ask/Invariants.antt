use Rattle.std.proofs.Common.{◌≡◌, ◌+◌, ◌*◌, [], drop, take, length}
use Rattle.pn_tree.specs.Views.{element_of}
use Rattle.pn_tree.specs.Depth.{depth_of}
use Rattle.pn_shape.specs.Rules.{said_by}
use Rattle.pn_shape_faults.specs.Keeping.{Goes, Counted}
use Rattle.pn_shape.specs.Faults.{kids_faults, all_faults}
use Rattle.pn_shape_faults.proofs.walk.+ask.Given as goal

abbrev pub invariant-ask_kids-loop-i : goal.invariant-ask_kids-loop-i
invariant-ask_kids-loop-i l = let e = element_of l.view in record {
  kept : Goes l.initial.least l.least (kids_faults all_faults l.asks l.kind (said_by l.rule) e [] e.kids) (kids_faults all_faults l.asks l.kind (said_by l.rule) e (take l.i e.kids) (drop l.i e.kids));
  counted : Counted l.kind (said_by l.rule).slots l.counts (take l.i e.kids);
  size : length l.counts ≡ length l.initial.counts;
}

abbrev pub decreases-ask : goal.decreases-ask
decreases-ask l = 6 * depth_of (element_of l.view) + 3

abbrev pub decreases-ask_row : goal.decreases-ask_row
decreases-ask_row l = 6 * depth_of (element_of l.view) + 2

abbrev pub decreases-ask_kids : goal.decreases-ask_kids
decreases-ask_kids l = 6 * depth_of (element_of l.view) + 1

abbrev pub decreases-ask_kid : goal.decreases-ask_kid
decreases-ask_kid l = 6 * depth_of (element_of l.view)

abbrev pub decreases-ask_element : goal.decreases-ask_element
decreases-ask_element l = 6 * depth_of (element_of l.kid) + 5

abbrev pub decreases-ask_placed : goal.decreases-ask_placed
decreases-ask_placed l = 6 * depth_of (element_of l.kid) + 4
