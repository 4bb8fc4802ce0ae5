use Rattle.std.proofs.Common.{◌∙◌, Err, IsOk, ap, refl, sym, subst}
use Rattle.pn_checks.proofs.SortLemmas.{of_refused, of_resolved}
use Rattle.pn_checks.proofs.sorts.keep_sort.Goals as goal

pub returns-in-Ok : goal.returns-in-Ok
returns-in-Ok c = of_resolved c.args.decls.now c.args.expr.now c.args.least.now (λ f h. c.resolve.ensures.clean (subst IsOk (sym c.in-Ok.is) refl) f h)

pub returns : goal.returns
returns c =
    of_refused c.args.decls.now c.args.expr.now c.in-Err-Fault.fault c.args.least.now c.keep_least.new.least c.requires (c.resolve.ensures.fault c.in-Err-Fault.fault (c.in-Err-Fault.is ∙ ap Err c.in-Err-Fault.field-0-is)) c.keep_least.ensures.lower
