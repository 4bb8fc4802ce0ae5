use Rattle.std.proofs.Common.{◌↔◌, ◌∙◌, IsNone, subst}
use Rattle.pn_bag.specs.Counts.{Includes}
use Rattle.pn_bag.proofs.multiset.Bag.first_short.Goals as goal

pub returns-clause-none : goal.returns-clause-none
returns-clause-none g c =
    subst (λ has. IsNone c.find_short.result ↔ Includes g.K.Ord.cmp has c.args.other.now) (c.deref.ensures.value ∙ c.self.view_is) (
    subst (λ needs. IsNone c.find_short.result ↔ Includes g.K.Ord.cmp c.deref.result.now needs) (c.deref-2.ensures.value ∙ c.other.view_is) c.find_short.ensures.none)
