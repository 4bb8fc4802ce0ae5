use Rattle.pn_values.specs.OrderLaws.{values_total}
use Rattle.pn_values.proofs.laws.values_are_ordered.Goals as goal

pub returns : goal.returns
returns c = values_total
