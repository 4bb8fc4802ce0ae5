use Rattle.std.proofs.Common.{◌≡◌, ◌-◌, ◌≤◌, length, drop}
use Rattle.std.specs.declared.cmp.Ordering.TheVariants.{Less}
use Rattle.pn_bag.specs.Counts.{Every}
use Rattle.pn_bag.specs.Places.{IsBefore}
use Rattle.pn_bag.proofs.places.search.Given as goal

-- the keys before `low` are smaller, and those from `high` on are greater
abbrev pub invariant-loop-low : goal.invariant-loop-low
invariant-loop-low g l = record {
  ordered : l.low ≤ l.high;
  within : l.high ≤ length l.entries;
  before : IsBefore g.K.Ord.cmp l.entries l.key l.low;
  after : Every (λ e. g.K.Ord.cmp l.key e.0 ≡ Less) (drop l.high l.entries);
}

abbrev pub decreases-loop-low : goal.decreases-loop-low
decreases-loop-low g l = l.high - l.low
