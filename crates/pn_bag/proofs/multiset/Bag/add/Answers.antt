use Rattle.std.proofs.Common.{◌≡◌, OnOk, subst}
use Rattle.pn_bag.specs.Algebra.{added}
use Rattle.pn_bag.proofs.Joining.{counts_of_added, same_on_ok}
use Rattle.pn_bag.proofs.multiset.Bag.add.Goals as goal

pub returns-clause-entries : goal.returns-clause-entries
returns-clause-entries g c =
    subst (λ old. OnOk c.add_entry.result (c.add_entry.new.entries.items ≡ added g.K.Ord.cmp old c.args.key c.args.count)) c.self.view_is c.add_entry.ensures.entries

pub returns-clause-ok : goal.returns-clause-ok
returns-clause-ok g c = same_on_ok g.K.Ord.cmp c.add_entry.result _ _ (returns-clause-entries g c)

pub returns-clause-counts : goal.returns-clause-counts
returns-clause-counts g c = counts_of_added g.met.K.Ord.total c.add_entry.result _ _ _ _ (returns-clause-entries g c)
