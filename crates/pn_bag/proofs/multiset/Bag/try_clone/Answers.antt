use Rattle.std.proofs.Common.{◌∙◌, subst}
use Rattle.pn_bag.specs.Copies.{IsCopy}
use Rattle.pn_bag.proofs.Copying.{copy_same, copy_bag}
use Rattle.pn_bag.proofs.multiset.Bag.try_clone.Goals as goal

-- the copy of a bag is a bag, with the same counts
pub invariant_of-result : goal.invariant_of-result
invariant_of-result g c =
    copy_bag g.met.K.Ord.total c.self.inside.entries.items c.in_ok-entries.entries.items (subst (λ xs. IsCopy g.K.Ord.cmp xs c.in_ok-entries.entries.items) c.deref.ensures.value c.in_ok-entries.ensures.copy) c.self.invariant

pub returns-clause-counts : goal.returns-clause-counts
returns-clause-counts g c =
    copy_same g.met.K.Ord.total c.args.self.now c.in_ok-entries.entries.items (subst (λ xs. IsCopy g.K.Ord.cmp xs c.in_ok-entries.entries.items) (c.deref.ensures.value ∙ c.self.view_is) c.in_ok-entries.ensures.copy)
