use Rattle.std.proofs.Common.{ap, arith}
use Rattle.std.proofs.lemmas.List.{take_all}
use Rattle.pn_bag.specs.Counts.{count_of}
use Rattle.pn_bag.proofs.Placing.{nothing_before}
use Rattle.pn_bag.proofs.Walking.{before_next, walked, count_of_read, count_of_read_more, not_before}
use Rattle.pn_bag.proofs.takes.take_away.Goals as goal

pub loop-position-init : goal.loop-position-init
loop-position-init g c = record {
  within = omega arith;
  before = nothing_before g.met.K.Ord.total c.args.entries.now.items c.args.other.now;
  rising = c.requires.entries;
  most = c.requires.most;
  counts = λ key. omega arith;
}

-- the key's count is still there
pub take_entry-from-requires : goal.take_entry-from-requires
take_entry-from-requires g c =
    let entry = c.index-other-position.result in
    let old = c.loop-position.invariant in
    record {
      rising = old.rising;
      within = old.within;
      before = before_next g.met.K.Ord.total _ _ _ _ entry c.loop-position-test.true c.index-other-position.is old.before;
      most = old.most;
      enough = omega (arith, c.requires.includes entry.0, old.counts entry.0, count_of_read g.met.K.Ord.total _ _ entry c.requires.other c.loop-position-test.true c.index-other-position.is, not_before g.met.K.Ord.total _ _ entry c.requires.other c.loop-position-test.true c.index-other-position.is);
    }

pub loop-position-preserved : goal.loop-position-preserved
loop-position-preserved g c =
    let entry = c.index-other-position.result in
    let new = c.take_entry-from.ensures in
    record {
      within = new.within;
      before = walked g.met.K.Ord.total _ _ _ _ entry c.requires.other c.loop-position-test.true c.index-other-position.is new.before;
      rising = new.rising;
      most = new.most;
      counts = λ key. omega (arith, new.counts key, c.loop-position.invariant.counts key, count_of_read_more g.K.Ord.cmp _ _ entry key c.loop-position-test.true c.index-other-position.is);
    }

pub returns-clause-counts : goal.returns-clause-counts
returns-clause-counts g c key =
    let whole = ap (λ xs. count_of g.K.Ord.cmp xs key) (take_all c.loop-position.position c.args.other.now c.loop-position-test.false) in
    omega (arith, whole, c.loop-position.invariant.counts key)
