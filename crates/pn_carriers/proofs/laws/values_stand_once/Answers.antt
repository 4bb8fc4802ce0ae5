use Rattle.pn_carriers.proofs.CarrierLemmas.{agrees}
use Rattle.pn_carriers.proofs.laws.values_stand_once.Goals as goal

pub returns : goal.returns
returns c = λ widths sort v i j h k. (agrees widths sort).once i j v h k
