use Rattle.std.proofs.Common.{refl}
use Rattle.pn_operations.proofs.SumLemmas.{multiple_fits, multiple_passes}
use Rattle.pn_operations.proofs.multisets.scaled_by.Goals as goal

pub returns-in-Ok : goal.returns-in-Ok
returns-in-Ok c = multiple_fits c.args.by c.args.bag c.scale.new.self c.in-Ok.ensures.ok c.in_order-in-Ok.ensures

pub returns-in-Err : goal.returns-in-Err
returns-in-Err c = multiple_passes c.args.by c.args.bag c.in_order.ensures (c.in-Err.ensures.too_large.0 (c.in-Err.ensures.only refl))
