use Rattle.pn_checks.proofs.OnceLemmas.{least_fault_is_one}
use Rattle.pn_checks.proofs.laws.the_least_fault_is_one.Goals as goal

pub returns : goal.returns
returns c = λ tree f g rises. least_fault_is_one tree rises f g
