use Rattle.std.proofs.Common.{Err, ap, ◌∙◌}
use Rattle.pn_marking.proofs.totals.joined.Goals as goal

pub returns-clause-none : goal.returns-clause-none
returns-clause-none c none = c.join.ensures.too_large.0 (c.in-Err-TooLarge.is ∙ ap Err c.in-Err-TooLarge.field-0-is)
