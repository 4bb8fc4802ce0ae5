use Rattle.std.proofs.Common.{◌≡◌, ◌∙◌, [], None, Some, IfSome, ap, sym, subst, take}
use Rattle.pn_eval.specs.Assignments.{Covers}
use Rattle.pn_net.specs.Labels.{said}
use Rattle.pn_terms.proofs.WalkLemmas.{if_ok_more}
use Rattle.pn_modes.proofs.PlanLemmas.{known_at, known_by}
use Rattle.pn_modes.proofs.plan.arc_need.Goals as goal

pub need-requires-clause-covers : goal.need-requires-clause-covers
need-requires-clause-covers c =
    let is : said c.arc_at-arc.result.now.arc.inscription ≡ Some c.get.result.now.value = ap said c.in-Some.is ∙ ap (λ l. Some l.value) (sym c.get.ensures) in
    let covers = subst (λ o. IfSome o (Covers c.args.net.now.declarations c.args.vars.now)) is (known_at c.args.net.now c.args.vars.now c.args.number c.arc_at-arc.result.now c.arc_at-arc.ensures c.requires.known) in
    subst (λ ds. Covers ds c.args.vars.now c.get.result.now.value) (sym c.decls.ensures.declared) covers

pub returns-in-Some : goal.returns-in-Some
returns-in-Some c =
    let is : said c.arc_at-arc.result.now.arc.inscription ≡ Some c.get.result.now.value = ap said c.in-Some.is ∙ ap (λ l. Some l.value) (sym c.get.ensures) in
    if_ok_more c.need.result _ _
    (λ n covers. known_by c.args.net.now (take n c.args.vars.now) c.args.number c.arc_at-arc.result.now c.arc_at-arc.ensures (Some c.get.result.now.value) is
    (subst (λ ds. Covers ds (take n c.args.vars.now) c.get.result.now.value) c.decls.ensures.declared covers))
    c.need.ensures

pub returns-in-None : goal.returns-in-None
returns-in-None c = known_by c.args.net.now [] c.args.number c.arc_at-arc.result.now c.arc_at-arc.ensures None (ap said c.in-None.is) tt
