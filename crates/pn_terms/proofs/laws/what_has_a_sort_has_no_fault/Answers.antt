use Rattle.pn_terms.proofs.SortLemmas.{sorted_no_fault}
use Rattle.pn_terms.proofs.laws.what_has_a_sort_has_no_fault.Goals as goal

pub returns : goal.returns
returns c = sorted_no_fault
