use Rattle.std.proofs.Common.{◌≤◌, length, take, drop}
use Rattle.pn_bag.specs.Counts.{count_of, Every}
use Rattle.pn_bag.specs.Places.{IsBefore}
use Rattle.pn_bag.proofs.reads.find_short.Given as goal

-- what was passed is before each key that is left, and each need so far is met
abbrev pub invariant-loop-position : goal.invariant-loop-position
invariant-loop-position g l = record {
  within : l.from ≤ length l.has;
  before : Every (λ need. IsBefore g.K.Ord.cmp l.has need.0 l.from) (drop l.position l.needs);
  met : Every (λ need. need.1 ≤ count_of g.K.Ord.cmp l.has need.0) (take l.position l.needs);
}
