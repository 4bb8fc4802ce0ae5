use Rattle.std.proofs.Common.{◌≤◌, arith, refl}
use Rattle.std.proofs.lemmas.Option.{slice_get_read}
use Rattle.pn_bag.specs.Counts.{count_of}
use Rattle.pn_bag.proofs.Placing.{nothing_before}
use Rattle.pn_bag.proofs.Walking.{before_next, count_of_read, walked, every_read, every_taken, includes_by_entries}
use Rattle.pn_bag.proofs.reads.find_short.Goals as goal

pub loop-position-init : goal.loop-position-init
loop-position-init g c = record {
  within = omega arith;
  before = nothing_before g.met.K.Ord.total c.args.has.now c.args.needs.now;
  met = tt;
}

pub count_from-place-requires-clause-before : goal.count_from-place-requires-clause-before
count_from-place-requires-clause-before g c = before_next g.met.K.Ord.total _ _ _ _ c.index-needs-position.result c.loop-position-test.true c.index-needs-position.is c.loop-position.invariant.before

pub returns-then-count-entry-clause-some : goal.returns-then-count-entry-clause-some
returns-then-count-entry-clause-some g c =
    let entry = c.index-needs-position.result in
    record {
      entry = (entry.0, slice_get_read c.args.needs.now _ _ entry refl c.loop-position-test.true c.index-needs-position.is, c.count_from-place.ensures.count);
      fewer = omega arith;
      first = c.loop-position.invariant.met;
    }

-- the key of the entry has its count in `needs`, and fewer in `has`
pub returns-then-count-entry-clause-none : goal.returns-then-count-entry-clause-none
returns-then-count-entry-clause-none g c = (
  λ never. absurd cc,
  λ includes.
      let entry = c.index-needs-position.result in
      absurd (omega (arith, includes entry.0, c.count_from-place.ensures.count, count_of_read g.met.K.Ord.total _ _ entry c.requires.needs c.loop-position-test.true c.index-needs-position.is)),
)

pub loop-position-preserved : goal.loop-position-preserved
loop-position-preserved g c = record {
  within = c.count_from-place.ensures.within;
  before = walked g.met.K.Ord.total _ _ _ _ c.index-needs-position.result c.requires.needs c.loop-position-test.true c.index-needs-position.is c.count_from-place.ensures.before;
  met = every_read (λ need. need.1 ≤ count_of g.K.Ord.cmp c.args.has.now need.0) _ _ c.index-needs-position.result c.loop-position-test.true c.index-needs-position.is c.loop-position.invariant.met (omega (arith, c.count_from-place.ensures.count));
}

-- each need is met
pub returns-clause-none : goal.returns-clause-none
returns-clause-none g c = (λ none key. includes_by_entries g.met.K.Ord.total _ _ c.requires.needs (every_taken _ _ _ c.loop-position-test.false c.loop-position.invariant.met) key, λ includes. refl)
