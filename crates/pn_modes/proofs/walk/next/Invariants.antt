use Rattle.std.proofs.Common.{◌≡◌}
use Rattle.pn_modes.specs.Prunes.{Skips}
use Rattle.pn_modes.specs.Search.{IsAt, steps_left, to_come}
use Rattle.pn_modes.proofs.walk.next.Given as goal

-- what was left out so far was not wanted
abbrev pub invariant-loop-mode : goal.invariant-loop-mode
invariant-loop-mode g l = record {
  at : IsAt (g.P.Pruning.carriers l.over) l.cursor;
  transition : l.cursor.front.transition ≡ l.initial.cursor.front.transition;
  skips : Skips (g.P.Pruning.wanted l.over) (to_come (g.P.Pruning.carriers l.over) l.initial.cursor) (to_come (g.P.Pruning.carriers l.over) l.cursor);
}

abbrev pub decreases-loop-mode : goal.decreases-loop-mode
decreases-loop-mode g l = steps_left (g.P.Pruning.carriers l.over) l.cursor
