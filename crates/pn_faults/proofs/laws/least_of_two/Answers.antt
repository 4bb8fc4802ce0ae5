use Rattle.pn_faults.proofs.LeastLemmas.{least_fault-append}
use Rattle.pn_faults.proofs.laws.least_of_two.Goals as goal

pub returns : goal.returns
returns c = λ first second. least_fault-append first second
