use Rattle.pn_faults.proofs.LeastLemmas.{least_fault-flat_map}
use Rattle.pn_faults.proofs.laws.least_of_parts.Goals as goal

pub returns : goal.returns
returns c = λ parts. least_fault-flat_map (λ part. part) parts
