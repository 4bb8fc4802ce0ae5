use Rattle.std.proofs.Common.{◌≤◌, ◌<◌, ◌+◌, arith}
use Rattle.pn_bag.specs.declared.TheConstants.{MAX_COUNT}
use Rattle.pn_bag.specs.Counts.{count_of}
use Rattle.pn_bag.proofs.Placing.{nothing_before}
use Rattle.pn_bag.proofs.Walking.{before_next, count_of_read, walked, holds_read, every_read, every_taken, fits_by_entries, count_bound}
use Rattle.pn_bag.proofs.reads.sum_passes.Goals as goal

pub loop-position-init : goal.loop-position-init
loop-position-init g c = record {
  within = omega arith;
  before = nothing_before g.met.K.Ord.total c.args.left.now c.args.right.now;
  fitting = tt;
}

pub count_from-place-requires-clause-before : goal.count_from-place-requires-clause-before
count_from-place-requires-clause-before g c = before_next g.met.K.Ord.total _ _ _ _ c.index-right-position.result c.loop-position-test.true c.index-right-position.is c.loop-position.invariant.before

pub overflow_sub-entry : goal.overflow_sub-entry
overflow_sub-entry g c = (holds_read (λ more. (0 < more.1) × (more.1 ≤ MAX_COUNT)) _ _ c.index-right-position.result c.loop-position-test.true c.index-right-position.is c.requires.right.counted).1

-- the key of the entry passes
pub returns-then-count-entry-clause-passes : goal.returns-then-count-entry-clause-passes
returns-then-count-entry-clause-passes g c passes =
    let entry = c.index-right-position.result in
    (entry.0, omega (arith, c.count_from-place.ensures.count, count_of_read g.met.K.Ord.total _ _ entry c.requires.right.rising c.loop-position-test.true c.index-right-position.is))

pub loop-position-preserved : goal.loop-position-preserved
loop-position-preserved g c = record {
  within = c.count_from-place.ensures.within;
  before = walked g.met.K.Ord.total _ _ _ _ c.index-right-position.result c.requires.right.rising c.loop-position-test.true c.index-right-position.is c.count_from-place.ensures.before;
  fitting = every_read (λ more. count_of g.K.Ord.cmp c.args.left.now more.0 + more.1 ≤ MAX_COUNT) _ _ c.index-right-position.result c.loop-position-test.true c.index-right-position.is c.loop-position.invariant.fitting (omega (arith, c.count_from-place.ensures.count, holds_read (λ more. (0 < more.1) × (more.1 ≤ MAX_COUNT)) _ _ c.index-right-position.result c.loop-position-test.true c.index-right-position.is c.requires.right.counted));
}

-- each entry fits, so each key does
pub returns-clause-fits : goal.returns-clause-fits
returns-clause-fits g c fits key = fits_by_entries g.met.K.Ord.total MAX_COUNT _ _ (count_bound g.met.K.Ord.total MAX_COUNT _ c.requires.left.rising c.requires.left.counted) c.requires.right.rising (every_taken _ _ _ c.loop-position-test.false c.loop-position.invariant.fitting) key
