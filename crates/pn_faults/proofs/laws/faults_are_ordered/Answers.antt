use Rattle.pn_faults.proofs.LeastLemmas.{faults_total}
use Rattle.pn_faults.proofs.laws.faults_are_ordered.Goals as goal

pub returns : goal.returns
returns c = faults_total
