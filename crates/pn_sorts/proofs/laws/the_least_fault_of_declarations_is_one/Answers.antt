use Rattle.pn_sorts.proofs.OrderLemmas.{least_declared_once}
use Rattle.pn_sorts.proofs.laws.the_least_fault_of_declarations_is_one.Goals as goal

pub returns : goal.returns
returns c = least_declared_once
