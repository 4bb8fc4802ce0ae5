use Rattle.std.proofs.Common.{◌∙◌, refl, ap, sym, subst}
use Rattle.std.proofs.lemmas.Result.{IfOk-at_ok}
use Rattle.pn_resolve.specs.Meaning.{sort_with}
use Rattle.pn_resolve.specs.Tables.{IsTable, within, kept_by}
use Rattle.pn_resolve.proofs.ResolveLemmas.{table_of, sort_true, none_true}
use Rattle.pn_resolve.proofs.table.Table.sort.Goals as goal

pub returns-clause-some : goal.returns-clause-some
returns-clause-some c = λ s is items t.
    sort_true items c.args.index.now c.deref.result.now c.self.inside.sorts
    (table_of items c.args.index.now _ _ _ _ (sym c.deref.ensures.value) refl (subst (IsTable items c.args.index.now) (sym c.self.view_is) t))
    c.args.expr.now s
    (IfOk-at_ok _ is c.build_within.ensures ∙ ap (λ x. within x (sort_with (kept_by c.args.index.now c.self.inside.sorts) c.args.expr.now)) c.in_ok-extent.ensures.extent)

pub returns-clause-none : goal.returns-clause-none
returns-clause-none c = λ is items t.
    none_true items c.args.index.now c.deref.result.now c.self.inside.sorts
    (table_of items c.args.index.now _ _ _ _ (sym c.deref.ensures.value) refl (subst (IsTable items c.args.index.now) (sym c.self.view_is) t))
    c.args.expr.now
    (IfOk-at_ok _ is c.build_within.ensures ∙ ap (λ x. within x (sort_with (kept_by c.args.index.now c.self.inside.sorts) c.args.expr.now)) c.in_ok-extent.ensures.extent)
