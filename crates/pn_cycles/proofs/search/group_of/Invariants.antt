use Rattle.std.proofs.Common.{ℕ, ◌<◌, length}
use Rattle.pn_cycles.specs.Searches.{group_at}
use Rattle.pn_cycles.proofs.search.group_of.Given as goal

abbrev pub invariant-loop-at : goal.invariant-loop-at
invariant-loop-at l = record {
  within : l.at < length l.path;
  above : (at : ℕ) → l.at < at → at < length l.path → l.place < (group_at l.path at).start;
}

abbrev pub decreases-loop-at : goal.decreases-loop-at
decreases-loop-at l = l.at
