use Rattle.pn_net.specs.Orders.{modes_total}
use Rattle.pn_net.proofs.OrderLemmas.{same_modes}
use Rattle.pn_net.proofs.laws.modes_are_ordered.Goals as goal

pub returns-clause-total : goal.returns-clause-total
returns-clause-total c = modes_total

pub returns-clause-equal : goal.returns-clause-equal
returns-clause-equal c = same_modes
