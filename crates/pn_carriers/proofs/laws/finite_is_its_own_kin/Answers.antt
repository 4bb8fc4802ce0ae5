use Rattle.pn_carriers.proofs.KinLemmas.{own_kin}
use Rattle.pn_carriers.proofs.laws.finite_is_its_own_kin.Goals as goal

pub returns : goal.returns
returns c = own_kin
