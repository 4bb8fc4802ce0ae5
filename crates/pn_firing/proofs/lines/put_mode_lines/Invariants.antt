use Rattle.std.proofs.Common.{◌≡◌, ℕ, List, take}
use Rattle.std.specs.List.{AllZip, flat_map}
use Rattle.pn_mode_text.specs.Texts.{IsModeText}
use Rattle.pn_outside.specs.Taking.{Takes}
use Rattle.pn_firing.specs.Lines.{mode_line}
use Rattle.pn_firing.proofs.lines.put_mode_lines.Given as goal

abbrev pub invariant-loop-i : goal.invariant-loop-i
invariant-loop-i g l = record {
  takes : (texts : List (List ℕ)) → AllZip (IsModeText l.net) l.modes texts → Takes g.K.Sink.taken g.K.Sink.number l.initial.sink l.sink (flat_map mode_line (take l.i texts));
  unfailed : g.K.Sink.faults l.sink ≡ g.K.Sink.faults l.initial.sink;
}
