use Rattle.std.proofs.Common.{◌≡◌, OnOk, subst}
use Rattle.pn_bag.specs.Algebra.{joined}
use Rattle.pn_bag.proofs.Joining.{counts_of_joined, same_on_ok}
use Rattle.pn_bag.proofs.multiset.Bag.join.Goals as goal

pub returns-clause-entries : goal.returns-clause-entries
returns-clause-entries g c =
    subst (λ old. OnOk c.join_entries.result (c.join_entries.new.entries.items ≡ joined g.K.Ord.cmp old c.args.other)) c.self.view_is (
    subst (λ more. OnOk c.join_entries.result (c.join_entries.new.entries.items ≡ joined g.K.Ord.cmp c.self.inside.entries.items more)) c.other.view_is c.join_entries.ensures.entries)

pub returns-clause-ok : goal.returns-clause-ok
returns-clause-ok g c = same_on_ok g.K.Ord.cmp c.join_entries.result _ _ (returns-clause-entries g c)

pub returns-clause-counts : goal.returns-clause-counts
returns-clause-counts g c = counts_of_joined g.met.K.Ord.total c.join_entries.result _ _ _ (returns-clause-entries g c)
