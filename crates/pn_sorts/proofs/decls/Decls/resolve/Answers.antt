use Rattle.std.proofs.Common.{Err, Some, ap, inl, inr, sym, subst, ◌∙◌}
use Rattle.pn_faults.specs.Standing.{IsLeastOf}
use Rattle.pn_resolve.specs.Meaning.{Resolves}
use Rattle.pn_resolve.specs.Standing.{StandsInSort}
use Rattle.pn_sorts.specs.Standing.{Stands}
use Rattle.pn_sorts.specs.Standing.Stands.{besides}
use Rattle.pn_sorts.specs.Keeping.{IsRefusedFor}
use Rattle.pn_sorts.proofs.SettleLemmas.{same_error, same_refusal}
use Rattle.pn_faults.specs.declared.fault.Refusal.TheVariants as refusals
use Rattle.pn_sorts.proofs.decls.Decls.resolve.Goals as goal

pub unreachable-requires : goal.unreachable-requires
unreachable-requires c =
    let elsewhere = c.resolve.ensures.elsewhere (c.in-Err-Elsewhere.is ∙ ap Err c.in-Err-Elsewhere.field-0-is) c.self.inside.items c.self.invariant.entries in
    subst (IsLeastOf (Stands c.self.inside.items)) c.in-None.is c.self.invariant.least elsewhere.2.0 (besides elsewhere.2.0 elsewhere.2.1)

pub returns-in-Ok-clause-ok : goal.returns-in-Ok-clause-ok
returns-in-Ok-clause-ok c = subst (λ items. Resolves items c.args.expr.now c.in-Ok.sort) c.self.view_is (c.resolve.ensures.ok c.in-Ok.sort c.in-Ok.is c.self.inside.items c.self.invariant.entries).0

pub returns-in-Ok-clause-clean : goal.returns-in-Ok-clause-clean
returns-in-Ok-clause-clean c _ f stands =
    (c.resolve.ensures.ok c.in-Ok.sort c.in-Ok.is c.self.inside.items c.self.invariant.entries).1 f (subst (λ items. StandsInSort items c.args.expr.now f) (sym c.self.view_is) stands)

pub returns-in-Err-Fault-clause-fault : goal.returns-in-Err-Fault-clause-fault
returns-in-Err-Fault-clause-fault c f is =
    let least = c.resolve.ensures.fault c.in-Err-Fault.fault (c.in-Err-Fault.is ∙ ap Err c.in-Err-Fault.field-0-is) c.self.inside.items c.self.invariant.entries in
    subst (λ items. IsRefusedFor items c.args.expr.now f) c.self.view_is (inl (subst (λ g. IsLeastOf (StandsInSort c.self.inside.items c.args.expr.now) (Some g)) (same_refusal c.in-Err-Fault.fault f is) least))

pub returns-in-Some-clause-fault : goal.returns-in-Some-clause-fault
returns-in-Some-clause-fault c f is =
    let elsewhere = c.resolve.ensures.elsewhere (c.in-Err-Elsewhere.is ∙ ap Err c.in-Err-Elsewhere.field-0-is) c.self.inside.items c.self.invariant.entries in
    let least = subst (IsLeastOf (Stands c.self.inside.items)) c.in-Some.is c.self.invariant.least in
    let same = c.refused.ensures f (same_error c.refused.result (refusals.Fault f) is) in
    subst (λ items. IsRefusedFor items c.args.expr.now f) c.self.view_is (inr (elsewhere.0, elsewhere.1, subst (λ g. IsLeastOf (Stands c.self.inside.items) (Some g)) (sym same) least))
