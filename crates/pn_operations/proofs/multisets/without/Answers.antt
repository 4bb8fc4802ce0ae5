use Rattle.std.proofs.Common.{◌∙◌}
use Rattle.pn_operations.proofs.SumLemmas.{some_left, none_left}
use Rattle.pn_operations.proofs.multisets.without.Goals as goal

pub returns-in-Some : goal.returns-in-Some
returns-in-Some c = c.difference.ensures ∙ some_left c.args.whole c.args.parts.items c.in_ok-part.field-0 c.in-Some.part c.in_order.ensures c.in_ok-part.ensures c.in-Some.is

pub returns-in-None : goal.returns-in-None
returns-in-None c = none_left c.args.whole c.args.parts.items c.in_ok-part.field-0 c.in_order.ensures c.in_ok-part.ensures c.in-None.is
