use Rattle.std.proofs.Common.{◌≡◌, ◌+◌, ◌++◌, ◌≤◌, reverse, vec_len, vec_capacity}
use Rattle.pn_bag.specs.declared.TheConstants.{MAX_COUNT}
use Rattle.pn_bag.specs.Algebra.{joined}
use Rattle.pn_bag.specs.Bag.{IsBag}
use Rattle.pn_bag.specs.Counts.{count_of}
use Rattle.pn_bag.proofs.merges.merge.Given as goal

-- the sum of what is left, and behind it what is merged so far, from the greatest key down
abbrev pub invariant-loop-entry : goal.invariant-loop-entry
invariant-loop-entry g l = record {
  left : IsBag g.K.Ord.cmp l.left.items;
  right : IsBag g.K.Ord.cmp l.right.items;
  fits : (key : g.row.K.Denot) → count_of g.K.Ord.cmp l.left.items key + count_of g.K.Ord.cmp l.right.items key ≤ MAX_COUNT;
  room : vec_len l.merged + (vec_len l.left + vec_len l.right) ≤ vec_capacity l.merged;
  whole : joined g.K.Ord.cmp l.initial.left.items l.initial.right.items ≡ joined g.K.Ord.cmp l.left.items l.right.items ++ reverse l.merged.items;
}

abbrev pub decreases-loop-entry : goal.decreases-loop-entry
decreases-loop-entry g l = vec_len l.left + vec_len l.right
