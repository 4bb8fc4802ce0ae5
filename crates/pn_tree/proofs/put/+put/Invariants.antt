use Rattle.std.proofs.Common.{◌≡◌, ◌+◌, ◌*◌, take}
use Rattle.std.specs.List.{flat_map}
use Rattle.pn_outside.specs.Taking.{Takes}
use Rattle.pn_tree.specs.Views.{element_of}
use Rattle.pn_tree.specs.Depth.{depth_of}
use Rattle.pn_tree.specs.Walks.{kid_size}
use Rattle.pn_tree.specs.Canonical.{child_text}
use Rattle.pn_tree.proofs.put.+put.Given as goal

abbrev pub invariant-put_kids-loop-i : goal.invariant-put_kids-loop-i
invariant-put_kids-loop-i g l = record {
  takes : Takes g.K.Sink.taken g.K.Sink.number l.initial.sink l.sink (flat_map child_text (take l.i (element_of l.part).kids));
  unfailed : g.K.Sink.faults l.sink ≡ g.K.Sink.faults l.initial.sink;
}

abbrev pub decreases-put_element : goal.decreases-put_element
decreases-put_element g l = 3 * depth_of (element_of l.part) + 2

abbrev pub decreases-put_kids : goal.decreases-put_kids
decreases-put_kids g l = 3 * depth_of (element_of l.part) + 1

abbrev pub decreases-put_child : goal.decreases-put_child
decreases-put_child g l = kid_size l.kid
