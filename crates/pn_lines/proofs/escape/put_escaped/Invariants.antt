use Rattle.std.proofs.Common.{◌≡◌, ◌≤◌, take}
use Rattle.pn_outside.specs.Taking.{Takes}
use Rattle.pn_lines.specs.Escapes.{escape, escaped}
use Rattle.pn_tree.proofs.EscapeLemmas.{IsRun}
use Rattle.pn_lines.proofs.escape.put_escaped.Given as goal

abbrev pub invariant-loop-at : goal.invariant-loop-at
invariant-loop-at g l = record {
  within : l.start ≤ l.at;
  takes : Takes g.K.Sink.taken g.K.Sink.number l.initial.sink l.sink (escaped (take l.start l.bytes));
  plain : IsRun escape l.bytes l.start l.at;
  unfailed : g.K.Sink.faults l.sink ≡ g.K.Sink.faults l.initial.sink;
}
