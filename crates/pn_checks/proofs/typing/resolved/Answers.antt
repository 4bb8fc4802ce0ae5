use Rattle.std.proofs.Common.{Err, ap, ◌∙◌}
use Rattle.pn_terms.proofs.SortLemmas.{not_refused}
use Rattle.pn_checks.proofs.typing.resolved.Goals as goal

pub unreachable-requires : goal.unreachable-requires
unreachable-requires c = not_refused c.args.decls.now c.args.expr.now c.in-Err-Fault.field-0-0 c.requires.faultless c.requires.sound (c.resolve.ensures.fault c.in-Err-Fault.field-0-0 (c.in-Err-Fault.is ∙ ap Err c.in-Err-Fault.field-0-is))
