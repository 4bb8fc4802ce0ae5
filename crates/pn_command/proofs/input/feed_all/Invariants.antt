use Rattle.std.proofs.Common.{◌≡◌, ◌+◌, ◌-◌, ◌≤◌}
use Rattle.pn_outside.specs.declared.limits.TheConstants.{BYTES}
use Rattle.pn_command.specs.Reading.{IsFed}
use Rattle.pn_command.proofs.input.feed_all.Given as goal

abbrev pub invariant-loop-count : goal.invariant-loop-count
invariant-loop-count g l = record {
  so_far : IsFed l.scanner (g.S.Source.left l.initial.source) (g.S.Source.left l.source) l.count;
  later : g.S.Source.faults l.initial.source ≤ g.S.Source.faults l.source;
  unfailed : g.S.Source.faults l.source ≡ g.S.Source.faults l.initial.source;
}

abbrev pub decreases-loop-count : goal.decreases-loop-count
decreases-loop-count g l = BYTES + 1 - l.count
