use Rattle.std.proofs.Common.{◌≤◌, take}
use Rattle.pn_bag.specs.Counts.{Every}
use Rattle.pn_bag.proofs.scales.has_above.Given as goal

abbrev pub invariant-loop-entry : goal.invariant-loop-entry
invariant-loop-entry g l = Every (λ e. e.1 ≤ l.most) (take l.entry-index l.entries)
