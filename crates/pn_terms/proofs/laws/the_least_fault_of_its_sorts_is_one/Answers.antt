use Rattle.pn_terms.proofs.OrderLemmas.{least_sort_once}
use Rattle.pn_terms.proofs.laws.the_least_fault_of_its_sorts_is_one.Goals as goal

pub returns : goal.returns
returns c = least_sort_once
