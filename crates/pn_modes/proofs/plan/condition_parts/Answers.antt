use Rattle.std.proofs.Common.{◌≡◌, ◌∙◌, IfSome, Some, ap, subst, sym, take}
use Rattle.pn_eval.specs.Assignments.{Covers}
use Rattle.pn_eval.specs.Ready.{IsReady}
use Rattle.pn_marking.proofs.KnownLemmas.{condition_covered}
use Rattle.pn_net.specs.Labels.{said}
use Rattle.pn_net.specs.Typed.{IsTypedTerm}
use Rattle.pn_terms.proofs.WalkLemmas.{if_ok_more}
use Rattle.pn_modes.proofs.plan.condition_parts.Goals as goal

pub parts_in-requires-clause-ready : goal.parts_in-requires-clause-ready
parts_in-requires-clause-ready c =
    let is : said c.transition_at-transition.result.now.condition ≡ Some c.get.result.now.value = ap said c.in-Some.is ∙ ap (λ l. Some l.value) (sym c.get.ensures) in
    let typed = subst (λ o. IfSome o (IsTypedTerm c.args.net.now.declarations)) is c.transition_at-transition.ensures.typed in
    let covers = subst (λ o. IfSome o (Covers c.args.net.now.declarations c.args.vars.now)) (c.transition_at-transition.ensures.condition ∙ is) (condition_covered c.args.net.now c.args.number c.args.vars.now c.requires.variables) in
    subst (λ ds. IsReady ds c.args.vars.now c.get.result.now.value) (sym c.decls.ensures.declared) (record { sound = typed.0; sorted = typed.1; covers = covers })

pub returns-in-Some : goal.returns-in-Some
returns-in-Some c =
    let is : said c.transition_at-transition.result.now.condition ≡ Some c.get.result.now.value = ap said c.in-Some.is ∙ ap (λ l. Some l.value) (sym c.get.ensures) in
    if_ok_more c.parts_in.result _ _
    (λ parts each part there. record {
      stands = (c.get.result.now.value, c.transition_at-transition.ensures.condition ∙ is, (each part there).0);
      covers = subst (λ ds. Covers ds (take part.need c.args.vars.now) part.term.now) c.decls.ensures.declared (each part there).1;
    })
    c.parts_in.ensures
