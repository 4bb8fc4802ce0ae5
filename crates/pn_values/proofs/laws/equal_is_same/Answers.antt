use Rattle.pn_values.specs.OrderLaws.{values_apart, values_tie}
use Rattle.pn_values.proofs.laws.equal_is_same.Goals as goal

pub returns : goal.returns
returns c = λ a b. (values_apart a b, values_tie a b)
