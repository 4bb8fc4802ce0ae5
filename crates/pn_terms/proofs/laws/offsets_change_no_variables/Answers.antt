use Rattle.pn_terms.proofs.OffsetLemmas.{variables_aside}
use Rattle.pn_terms.proofs.laws.offsets_change_no_variables.Goals as goal

pub returns : goal.returns
returns c = variables_aside
