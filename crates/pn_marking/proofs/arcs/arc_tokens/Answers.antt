use Rattle.std.proofs.Common.{◌∷◌, [], ℕ, List, IfSome, sym, subst}
use Rattle.pn_bag.specs.Counts.{IsSame}
use Rattle.pn_marking.specs.Totals.{HasTotals, IsArcBag, IsMovedBy}
use Rattle.pn_values.specs.Order.{value_cmp}
use Rattle.pn_values.specs.declared.value.Value.{Value}
use Rattle.pn_marking.proofs.ArcLemmas.{arc_moved, arc_outside, arc_too_large, one_arc}
use Rattle.pn_marking.proofs.arcs.arc_tokens.Goals as goal

pub returns-then-are_on-clause-some : goal.returns-then-are_on-clause-some
returns-then-are_on-clause-some c a got =
    let f = c.args.net.now in
    let vars = c.args.vars.now in
    let given = c.args.values.now in
    let arc = c.arc_at-arc.result.now in
    let m = c.in_ok-put_on-in-Some.field-0 in
    let says = subst (λ o. IfSome o (λ bag. (said : List (Value × ℕ)) × IsArcBag f.declarations vars given arc said × IsSame value_cmp bag said)) c.in-Some.is c.in_ok-bag.ensures.some in
    subst (λ x. IsMovedBy f vars given (x ∷ []) m) (one_arc f c.args.number arc a c.arc_at-arc.ensures.arc got)
    (arc_moved f vars given arc c.in-Some.bag says.0 m says.1 says.2 (c.are_on.ensures.yes c.if-are_on.true) c.in_ok-put_on-in-Some.ensures.bag c.in_ok-put_on-in-Some.ensures.counts)

pub returns-else-are_on-clause-none : goal.returns-else-are_on-clause-none
returns-else-are_on-clause-none c none a got totals =
    let f = c.args.net.now in
    let vars = c.args.vars.now in
    let given = c.args.values.now in
    let arc = c.arc_at-arc.result.now in
    let says = subst (λ o. IfSome o (λ bag. (said : List (Value × ℕ)) × IsArcBag f.declarations vars given arc said × IsSame value_cmp bag said)) c.in-Some.is c.in_ok-bag.ensures.some in
    let out = c.are_on.ensures.no c.if-are_on.false in
    arc_outside f vars given arc (c.gives_one.ensures vars given) c.in-Some.bag says.0 out.0 says.1 says.2 out.1 out.2
    (subst (λ x. HasTotals f vars given (x ∷ [])) (sym (one_arc f c.args.number arc a c.arc_at-arc.ensures.arc got)) totals)

pub returns-in-None-clause-none : goal.returns-in-None-clause-none
returns-in-None-clause-none c none a got totals =
    let f = c.args.net.now in
    let vars = c.args.vars.now in
    let given = c.args.values.now in
    let arc = c.arc_at-arc.result.now in
    arc_too_large f vars given arc (λ says is. c.in_ok-bag.ensures.none c.in-None.is says is)
    (subst (λ x. HasTotals f vars given (x ∷ [])) (sym (one_arc f c.args.number arc a c.arc_at-arc.ensures.arc got)) totals)
