use Rattle.std.proofs.Common.{◌≡◌, take}
use Rattle.std.specs.List.{flat_map}
use Rattle.pn_outside.specs.Taking.{Takes}
use Rattle.pn_tree.specs.Views.{element_of}
use Rattle.pn_tree.specs.Canonical.{attr_text}
use Rattle.pn_tree.proofs.put.put_attrs.Given as goal

abbrev pub invariant-loop-i : goal.invariant-loop-i
invariant-loop-i g l = record {
  takes : Takes g.K.Sink.taken g.K.Sink.number l.initial.sink l.sink (flat_map attr_text (take l.i (element_of l.part).attrs));
  unfailed : g.K.Sink.faults l.sink ≡ g.K.Sink.faults l.initial.sink;
}
