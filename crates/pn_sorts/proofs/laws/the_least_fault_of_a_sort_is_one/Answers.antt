use Rattle.pn_sorts.proofs.OrderLemmas.{least_in_sort_once}
use Rattle.pn_sorts.proofs.laws.the_least_fault_of_a_sort_is_one.Goals as goal

pub returns : goal.returns
returns c = least_in_sort_once
