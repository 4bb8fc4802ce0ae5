use Rattle.std.proofs.Common.{Err, ap}
use Rattle.pn_operations.proofs.SumLemmas.{two_fit, two_pass}
use Rattle.pn_operations.proofs.multisets.join.Goals as goal

pub returns-in-Ok : goal.returns-in-Ok
returns-in-Ok c = two_fit c.args.one c.args.other c.join.new.self c.in-Ok.ensures.entries c.in_order-in-Ok.ensures

pub returns-in-Err-TooLarge : goal.returns-in-Err-TooLarge
returns-in-Err-TooLarge c = two_pass c.args.one c.args.other c.in_order.ensures (c.in-Err-TooLarge.ensures.too_large.0 (ap Err c.in-Err-TooLarge.field-0-is))
