use Rattle.pn_carriers.proofs.OrderLemmas.{in_order}
use Rattle.pn_carriers.proofs.laws.values_stand_in_order.Goals as goal

pub returns : goal.returns
returns c = λ widths sort u v i j h k. in_order widths sort i j u v h k
