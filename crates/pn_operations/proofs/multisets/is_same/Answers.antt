use Rattle.pn_operations.proofs.CountLemmas.{same_answer}
use Rattle.pn_operations.proofs.multisets.is_same.Goals as goal

pub returns-clause-value : goal.returns-clause-value
returns-clause-value c = same_answer c.has_same_entries.result c.args.one.now c.args.other.now c.in_order.ensures c.in_order-2.ensures c.has_same_entries.ensures
