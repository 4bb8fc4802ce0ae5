use Rattle.pn_terms.proofs.OffsetLemmas.{offsets_aside}
use Rattle.pn_terms.proofs.laws.offsets_change_no_sort_of_a_term.Goals as goal

pub returns : goal.returns
returns c = offsets_aside
