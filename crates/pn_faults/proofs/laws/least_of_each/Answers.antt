use Rattle.pn_faults.proofs.LeastLemmas.{least_fault-flat_map}
use Rattle.pn_faults.proofs.laws.least_of_each.Goals as goal

pub returns : goal.returns
returns g c = λ faults_of things. least_fault-flat_map faults_of things
