use Rattle.std.proofs.Common.{◌≡◌, subst}
use Rattle.pn_bag.specs.Counts.{count_of, Every}
use Rattle.pn_bag.proofs.Canonical.{entries_count}
use Rattle.pn_bag.proofs.multiset.Bag.iter.Goals as goal

pub returns-clause-counts : goal.returns-clause-counts
returns-clause-counts g c =
    subst (λ xs. Every (λ item. count_of g.K.Ord.cmp xs item.0 ≡ item.1) xs) c.self.view_is (entries_count g.met.K.Ord.total c.self.inside.entries.items c.self.invariant.rising)
