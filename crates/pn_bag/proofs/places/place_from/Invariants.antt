use Rattle.std.proofs.Common.{◌≤◌, length}
use Rattle.pn_bag.specs.Places.{IsBefore}
use Rattle.pn_bag.proofs.places.place_from.Given as goal

-- the keys before `at` are smaller
abbrev pub invariant-loop-at : goal.invariant-loop-at
invariant-loop-at g l = record {
  within : l.at ≤ length l.entries;
  before : IsBefore g.K.Ord.cmp l.entries l.key l.at;
}
