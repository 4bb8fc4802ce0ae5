use Rattle.std.proofs.Common.{ap, arith}
use Rattle.pn_bag.specs.declared.TheConstants.{MAX_COUNT}
use Rattle.pn_bag.specs.Counts.{count_of}
use Rattle.pn_bag.proofs.Walking.{count_bound}
use Rattle.pn_bag.proofs.multiset.Bag.count.Goals as goal

-- no entry passes the greatest count
pub returns-clause-within : goal.returns-clause-within
returns-clause-within g c =
    omega (arith, c.count_by_search.ensures, ap (λ xs. count_of g.K.Ord.cmp xs c.args.key.now) c.deref.ensures.value, count_bound g.met.K.Ord.total MAX_COUNT c.self.inside.entries.items c.self.invariant.rising c.self.invariant.counted c.args.key.now)
