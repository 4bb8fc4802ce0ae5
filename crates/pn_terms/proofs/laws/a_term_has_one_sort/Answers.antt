use Rattle.pn_terms.proofs.SortLemmas.{sort_once}
use Rattle.pn_terms.proofs.laws.a_term_has_one_sort.Goals as goal

pub returns : goal.returns
returns c = sort_once
