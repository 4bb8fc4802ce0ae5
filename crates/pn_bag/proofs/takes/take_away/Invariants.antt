use Rattle.std.proofs.Common.{◌≡◌, ◌+◌, ◌≤◌, length, take, drop}
use Rattle.pn_bag.specs.declared.TheConstants.{MAX_COUNT}
use Rattle.pn_bag.specs.Counts.{count_of, Every, IsRising}
use Rattle.pn_bag.specs.Places.{IsBefore}
use Rattle.pn_bag.proofs.takes.take_away.Given as goal

-- the counts so far are taken away, and what was passed is before each key that is left
abbrev pub invariant-loop-position : goal.invariant-loop-position
invariant-loop-position g l = record {
  within : l.from ≤ length l.entries.items;
  before : Every (λ taken. IsBefore g.K.Ord.cmp l.entries.items taken.0 l.from) (drop l.position l.other);
  rising : IsRising g.K.Ord.cmp l.entries.items;
  most : Every (λ e. e.1 ≤ MAX_COUNT) l.entries.items;
  counts : (key : g.row.K.Denot) → count_of g.K.Ord.cmp l.entries.items key + count_of g.K.Ord.cmp (take l.position l.other) key ≡ count_of g.K.Ord.cmp l.initial.entries.items key;
}
