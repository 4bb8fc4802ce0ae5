use Rattle.std.proofs.Common.{◌≡◌, ◌∙◌, refl, ap, sym, subst, Some, None}
use Rattle.pn_resolve.specs.Meaning.{sort_with}
use Rattle.pn_resolve.specs.Tables.{IsTable, within, kept_by}
use Rattle.pn_resolve.proofs.ResolveLemmas.{table_of, sort_true, first_least, elsewhere_true}
use Rattle.pn_resolve.proofs.table.Table.resolve.Goals as goal

pub returns-in-Some-clause-fault : goal.returns-in-Some-clause-fault
returns-in-Some-clause-fault c = λ f is items t.
    let same : c.in-Some.fault ≡ f = cc in
    first_least items c.args.index.now c.deref.result.now c.self.inside.sorts
    (table_of items c.args.index.now _ _ _ _ (sym c.deref.ensures.value) refl (subst (IsTable items c.args.index.now) (sym c.self.view_is) t))
    c.args.expr.now (Some f) (ap Some (sym same) ∙ sym c.in-Some.is ∙ c.in-Ok.ensures.faults)

pub returns-in-Ok-Some-clause-ok : goal.returns-in-Ok-Some-clause-ok
returns-in-Ok-Some-clause-ok c = λ s is items t.
    let same : c.in-Ok-Some.sort ≡ s = cc in
    let table = table_of items c.args.index.now _ _ _ _ (sym c.deref.ensures.value) refl (subst (IsTable items c.args.index.now) (sym c.self.view_is) t) in
    let found = ap Some (sym same) ∙ sym c.in-Ok-Some.field-0-is ∙ c.in-Ok-Some.ensures ∙ ap (λ x. within x (sort_with (kept_by c.args.index.now c.self.inside.sorts) c.args.expr.now)) c.in-Ok.ensures.extent in
    let sort = sort_true items c.args.index.now c.deref.result.now c.self.inside.sorts table c.args.expr.now s found in
    (sort.0, first_least items c.args.index.now c.deref.result.now c.self.inside.sorts table c.args.expr.now None (sym c.in_default-least.is ∙ c.in-Ok.ensures.faults))

pub returns-in-Ok-None-clause-elsewhere : goal.returns-in-Ok-None-clause-elsewhere
returns-in-Ok-None-clause-elsewhere c = λ is items t.
    let table = table_of items c.args.index.now _ _ _ _ (sym c.deref.ensures.value) refl (subst (IsTable items c.args.index.now) (sym c.self.view_is) t) in
    let found = sym c.in-Ok-None.field-0-is ∙ c.in-Ok-None.ensures ∙ ap (λ x. within x (sort_with (kept_by c.args.index.now c.self.inside.sorts) c.args.expr.now)) c.in-Ok.ensures.extent in
    elsewhere_true items c.args.index.now c.deref.result.now c.self.inside.sorts table c.args.expr.now
    (first_least items c.args.index.now c.deref.result.now c.self.inside.sorts table c.args.expr.now None (sym c.in_default-least.is ∙ c.in-Ok.ensures.faults)) found
