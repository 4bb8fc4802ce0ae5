use Rattle.std.proofs.Common.{suc, sym, subst, arith}
use Rattle.pn_bag.specs.Places.{IsBefore}
use Rattle.pn_bag.proofs.Placing.{greater_from, smaller_to, is_at, gap_at_end}
use Rattle.pn_bag.proofs.places.place_from.Goals as goal

pub returns-in-Equal-clause-found : goal.returns-in-Equal-clause-found
returns-in-Equal-clause-found g c = is_at g.met.K.Ord.total _ _ c.index-entries-at.result _ c.requires.rising (omega arith) (sym c.in-Equal.ensures)

pub returns-in-Greater-clause-absent : goal.returns-in-Greater-clause-absent
returns-in-Greater-clause-absent g c = record {
  within = omega arith;
  before = c.loop-at.invariant.before;
  after = greater_from g.met.K.Ord.total _ _ c.index-entries-at.result _ c.requires.rising (omega arith) (sym c.in-Greater.ensures);
}

pub loop-at-preserved : goal.loop-at-preserved
loop-at-preserved g c = record {
  within = omega arith;
  before = subst (IsBefore g.K.Ord.cmp c.args.entries.now c.args.key.now) {x = suc c.loop-at.at} (omega arith) (smaller_to g.met.K.Ord.total _ _ c.index-entries-at.result _ c.requires.rising (omega arith) (sym c.in-Less.ensures));
}

pub returns-clause-absent : goal.returns-clause-absent
returns-clause-absent g c = gap_at_end g.met.K.Ord.total _ _ (subst (IsBefore g.K.Ord.cmp c.args.entries.now c.args.key.now) {x = c.loop-at.at} (omega arith) c.loop-at.invariant.before)
