use Rattle.std.proofs.Common.{◌≡◌, ◌++◌, length, reverse}
use Rattle.pn_pages.proofs.gather.move_reversed.Given as goal

abbrev pub decreases-loop-item : goal.decreases-loop-item
decreases-loop-item g l = length l.items

abbrev pub invariant-loop-item : goal.invariant-loop-item
invariant-loop-item g l = l.onto ++ reverse l.items ≡ l.initial.onto ++ reverse l.initial.items
