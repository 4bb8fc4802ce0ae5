use Rattle.pn_values.specs.OrderLaws.{value_cmp-out}
use Rattle.pn_values.proofs.laws.order_by_levels.Goals as goal

pub returns : goal.returns
returns c = value_cmp-out
