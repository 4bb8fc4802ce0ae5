use Rattle.pn_net.specs.Orders.{tokens_total}
use Rattle.pn_net.proofs.OrderLemmas.{same_tokens}
use Rattle.pn_net.proofs.laws.tokens_are_ordered.Goals as goal

pub returns-clause-total : goal.returns-clause-total
returns-clause-total c = tokens_total

pub returns-clause-equal : goal.returns-clause-equal
returns-clause-equal c = same_tokens
