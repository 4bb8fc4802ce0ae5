use Rattle.std.proofs.Common.{◌≡◌, map, take}
use Rattle.std.specs.List.{flat_map}
use Rattle.pn_outside.specs.Taking.{Takes}
use Rattle.pn_mode_text.specs.Pieces.{behind_commas}
use Rattle.pn_mode_text.specs.Texts.{each_text, value_text}
use Rattle.pn_mode_text.proofs.PieceLemmas.{piece}
use Rattle.pn_mode_text.proofs.values.+put_value.Given as goal

abbrev pub invariant-put_each_part-loop-i : goal.invariant-put_each_part-loop-i
invariant-put_each_part-loop-i g l = record {
  takes : Takes g.K.Sink.taken g.K.Sink.number l.initial.sink l.sink (flat_map piece (take l.i (behind_commas (each_text (map (value_text l.decls) l.parts) l.values))));
  unfailed : g.K.Sink.faults l.sink ≡ g.K.Sink.faults l.initial.sink;
}

abbrev pub invariant-put_each_item-loop-i : goal.invariant-put_each_item-loop-i
invariant-put_each_item-loop-i g l = record {
  takes : Takes g.K.Sink.taken g.K.Sink.number l.initial.sink l.sink (flat_map piece (take l.i (behind_commas (map (value_text l.decls l.item) l.values))));
  unfailed : g.K.Sink.faults l.sink ≡ g.K.Sink.faults l.initial.sink;
}
