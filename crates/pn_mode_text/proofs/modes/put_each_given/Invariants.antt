use Rattle.std.proofs.Common.{◌≡◌, List, map, take}
use Rattle.std.specs.List.{AllZip, flat_map}
use Rattle.pn_outside.specs.Taking.{Takes}
use Rattle.pn_mode_text.specs.Pieces.{behind_commas}
use Rattle.pn_mode_text.specs.Texts.{IsTypedVariable, TypedVariable, each_text, given_text}
use Rattle.pn_mode_text.proofs.PieceLemmas.{piece}
use Rattle.pn_mode_text.proofs.modes.put_each_given.Given as goal

abbrev pub invariant-loop-i : goal.invariant-loop-i
invariant-loop-i g l = record {
  takes : (typed : List TypedVariable) → AllZip (IsTypedVariable l.decls) l.vars typed
      → Takes g.K.Sink.taken g.K.Sink.number l.initial.sink l.sink (flat_map piece (take l.i (behind_commas (each_text (map (given_text l.decls) typed) l.values))));
  unfailed : g.K.Sink.faults l.sink ≡ g.K.Sink.faults l.initial.sink;
}
