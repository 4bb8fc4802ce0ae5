use Rattle.std.proofs.Common.{◌≡◌, ◌↔◌, IfOk, IfSome, IsTrue, Some, ap, sym, ◌∙◌, subst}
use Rattle.pn_marking.specs.Modes.{HoldsCondition}
use Rattle.pn_net.specs.Labels.{said}
use Rattle.pn_net.specs.Typed.{IsTypedTerm}
use Rattle.pn_marking.proofs.modes.condition_holds.Goals as goal

pub is_true-requires-clause-typed : goal.is_true-requires-clause-typed
is_true-requires-clause-typed c =
    let is : said c.transition_at-transition.result.now.condition ≡ Some c.get.result.now.value = ap said c.in-Some.is ∙ ap (λ l. Some l.value) (sym c.get.ensures) in
    subst (λ o. IfSome o (IsTypedTerm c.args.net.now.declarations)) is c.transition_at-transition.ensures.typed

pub returns-in-Some : goal.returns-in-Some
returns-in-Some c =
    let is : said c.transition_at-transition.result.now.condition ≡ Some c.get.result.now.value = ap said c.in-Some.is ∙ ap (λ l. Some l.value) (sym c.get.ensures) in
    subst (λ o. IfOk c.is_true.result (λ is. IsTrue is ↔ HoldsCondition c.args.net.now.declarations c.args.vars.now c.args.values.now o)) (sym (c.transition_at-transition.ensures.condition ∙ is)) c.is_true.ensures
