use Rattle.std.proofs.Common.{sym, subst}
use Rattle.std.proofs.lemmas.Result.{IfOk-weaker, on_ok_weaker}
use Rattle.pn_resolve.specs.Tables.{IsTable}
use Rattle.pn_resolve.proofs.ResolveLemmas.{extent_true, least_true}
use Rattle.pn_resolve.proofs.table.Table.walk.Goals as goal

pub returns-clause-extent : goal.returns-clause-extent
returns-clause-extent c = IfOk-weaker c.walk.result _ _
    (λ x is items t. extent_true items c.args.index.now c.deref.result.now c.self.inside.sorts
    (subst (λ xs. IsTable items c.args.index.now (record { extents = xs; sorts = c.self.inside.sorts })) (sym c.deref.ensures.value) (subst (IsTable items c.args.index.now) (sym c.self.view_is) t))
    c.args.expr.now x is)
    c.walk.ensures.extent

pub returns-clause-least : goal.returns-clause-least
returns-clause-least c = on_ok_weaker c.walk.result
    (λ is items t. least_true items c.args.index.now c.deref.result.now c.self.inside.sorts
    (subst (λ xs. IsTable items c.args.index.now (record { extents = xs; sorts = c.self.inside.sorts })) (sym c.deref.ensures.value) (subst (IsTable items c.args.index.now) (sym c.self.view_is) t))
    c.args.expr.now c.args.least.now c.walk.new.least is)
    c.walk.ensures.faults
