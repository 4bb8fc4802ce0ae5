use Rattle.std.proofs.Common.{sym}
use Rattle.std.proofs.lemmas.Bool.{false≢true}
use Rattle.pn_operations.proofs.CountLemmas.{left_found, not_included}
use Rattle.pn_operations.proofs.multisets.difference.Goals as goal

pub returns-in-Ok : goal.returns-in-Ok
returns-in-Ok c = sym (left_found c.args.whole c.args.part.now c.less.new.self c.in_order.ensures (record { bag = c.in_order-in-Ok.ensures; counts = c.in-Ok.ensures.counts }))

pub returns-in-Err : goal.returns-in-Err
returns-in-Err c = sym (not_included c.args.whole c.args.part.now (λ includes. false≢true (c.in-Err.ensures.exact.1 includes)))
