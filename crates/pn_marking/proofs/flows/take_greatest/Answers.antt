use Rattle.std.proofs.Common.{refl, sym, subst}
use Rattle.pn_marking.specs.Flows.{AreLastsOfOne, IsGreatestOf, IsLastAbove}
use Rattle.pn_marking.proofs.FlowLemmas.{takes_both, takes_left, takes_right}
use Rattle.pn_marking.proofs.flows.take_greatest.Goals as goal

pub returns-in-Less-clause-some : goal.returns-in-Less-clause-some
returns-in-Less-clause-some c = takes_right c.args.left.now.items c.args.right.now.items _ _ _ refl c.take_last.ensures.items (subst (λ l. IsLastAbove c.args.right.now.items l) c.deref.ensures.value (subst (λ r. IsLastAbove r c.deref.result.now) c.deref-2.ensures.value (c.in-Less.ensures.less refl)))

pub returns-in-Greater-clause-some : goal.returns-in-Greater-clause-some
returns-in-Greater-clause-some c = takes_left c.args.left.now.items c.args.right.now.items _ _ _ c.take_last-in-Greater.ensures.items refl (subst (λ l. IsLastAbove l c.args.right.now.items) c.deref.ensures.value (subst (λ r. IsLastAbove c.deref.result.now r) c.deref-2.ensures.value (c.in-Greater.ensures.greater refl)))

pub returns-in-Equal-clause-some : goal.returns-in-Equal-clause-some
returns-in-Equal-clause-some c =
    subst (IsGreatestOf c.args.left.now.items c.args.right.now.items c.take_last-in-Equal.new.flows.items c.take_last-in-Equal-2.new.flows.items) (sym c.join.ensures)
    (takes_both _ _ _ _ _ _ c.take_last-in-Equal.ensures.items c.take_last-in-Equal-2.ensures.items (subst (λ l. AreLastsOfOne l c.args.right.now.items) c.deref.ensures.value (subst (λ r. AreLastsOfOne c.deref.result.now r) c.deref-2.ensures.value (c.in-Equal.ensures.equal refl))))
