use Rattle.pn_terms.proofs.OrderLemmas.{least_once}
use Rattle.pn_terms.proofs.laws.the_least_fault_is_one.Goals as goal

pub returns : goal.returns
returns c = least_once
