use Rattle.std.proofs.Common.{◌≡◌, ◌+◌, ◌-◌, ◌/◌, suc, sym, subst, arith, drop}
use Rattle.pn_bag.specs.Counts.{Every}
use Rattle.std.specs.declared.cmp.Ordering.TheVariants.{Less}
use Rattle.pn_bag.specs.Places.{IsBefore}
use Rattle.pn_bag.proofs.Placing.{smaller_to, greater_from, is_at}
use Rattle.pn_bag.proofs.places.search.Goals as goal

-- the middle key is smaller
pub loop-low-preserved-in-Less : goal.loop-low-preserved-in-Less
loop-low-preserved-in-Less g c = record {
  ordered = omega arith;
  within = c.loop-low.invariant.within;
  before = subst (IsBefore g.K.Ord.cmp c.args.entries.now c.args.key.now) {x = suc (c.loop-low.low + (c.loop-low.high - c.loop-low.low) / 2)} (omega arith) (smaller_to g.met.K.Ord.total _ _ c.index-entries-middle.result _ c.requires.rising (omega (arith, c.loop-low.invariant.within)) (sym c.in-Less.ensures));
  after = c.loop-low.invariant.after;
}

-- it is the key
pub returns-in-Equal-clause-found : goal.returns-in-Equal-clause-found
returns-in-Equal-clause-found g c = is_at g.met.K.Ord.total _ _ c.index-entries-middle.result _ c.requires.rising (omega (arith, c.loop-low.invariant.within)) (sym c.in-Equal.ensures)

-- it is greater
pub loop-low-preserved : goal.loop-low-preserved
loop-low-preserved g c = record {
  ordered = omega arith;
  within = omega (arith, c.loop-low.invariant.within);
  before = c.loop-low.invariant.before;
  after = greater_from g.met.K.Ord.total _ _ c.index-entries-middle.result _ c.requires.rising (omega (arith, c.loop-low.invariant.within)) (sym c.in-Greater.ensures);
}

-- the two ends have met
pub returns-clause-absent : goal.returns-clause-absent
returns-clause-absent g c = record {
  within = omega arith;
  before = c.loop-low.invariant.before;
  after = subst (λ i. Every (λ e. g.K.Ord.cmp c.args.key.now e.0 ≡ Less) (drop i c.args.entries.now)) {x = c.loop-low.high} (omega arith) c.loop-low.invariant.after;
}
