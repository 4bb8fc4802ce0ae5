use Rattle.std.proofs.Common.{◌≡◌, ◌-◌, ◌≤◌, length, take}
use Rattle.pn_scan.proofs.ordinary.due_front.Given as goal

abbrev pub invariant-loop-at : goal.invariant-loop-at
invariant-loop-at l = record { of_due : l.at ≤ length l.due; within : l.at ≤ length l.piece; same : take l.at l.piece ≡ take l.at l.due }

abbrev pub decreases-loop-at : goal.decreases-loop-at
decreases-loop-at l = length l.due - l.at
