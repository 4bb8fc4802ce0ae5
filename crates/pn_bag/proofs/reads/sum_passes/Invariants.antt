use Rattle.std.proofs.Common.{◌+◌, ◌≤◌, length, take, drop}
use Rattle.pn_bag.specs.declared.TheConstants.{MAX_COUNT}
use Rattle.pn_bag.specs.Counts.{count_of, Every}
use Rattle.pn_bag.specs.Places.{IsBefore}
use Rattle.pn_bag.proofs.reads.sum_passes.Given as goal

-- what was passed is before each key that is left, and each sum so far fits
abbrev pub invariant-loop-position : goal.invariant-loop-position
invariant-loop-position g l = record {
  within : l.from ≤ length l.left;
  before : Every (λ more. IsBefore g.K.Ord.cmp l.left more.0 l.from) (drop l.position l.right);
  fitting : Every (λ more. count_of g.K.Ord.cmp l.left more.0 + more.1 ≤ MAX_COUNT) (take l.position l.right);
}
