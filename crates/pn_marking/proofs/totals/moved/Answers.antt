use Rattle.std.proofs.Common.{None, IfOk, IfSome, ◌≡◌, ap, sym, ◌∙◌, subst}
use Rattle.pn_marking.specs.Known.{AreKnown, arcs_with}
use Rattle.pn_marking.specs.Totals.{HasTotals, IsMovedBy}
use Rattle.pn_marking.proofs.KnownLemmas.{all_arcs, arcs_known}
use Rattle.pn_marking.proofs.totals.moved.Goals as goal

pub total-requires-clause-known : goal.total-requires-clause-known
total-requires-clause-known c = subst (AreKnown c.args.net.now c.args.vars.now) (sym c.arcs_of.ensures) (arcs_known c.args.net.now c.args.transition c.args.vars.now c.requires.variables)

pub returns-clause-some : goal.returns-clause-some
returns-clause-some c =
    subst (λ arcs. IfOk c.total.result (λ o. IfSome o (IsMovedBy c.args.net.now c.args.vars.now c.args.values.now arcs)))
    (ap (arcs_with c.args.net.now c.args.into) c.arcs_of.ensures ∙ all_arcs c.args.net.now c.args.into c.args.transition) c.total.ensures.some

pub returns-clause-none : goal.returns-clause-none
returns-clause-none c =
    subst (λ arcs. IfOk c.total.result (λ o. o ≡ None → HasTotals c.args.net.now c.args.vars.now c.args.values.now arcs → ⊥))
    (ap (arcs_with c.args.net.now c.args.into) c.arcs_of.ensures ∙ all_arcs c.args.net.now c.args.into c.args.transition) c.total.ensures.none
