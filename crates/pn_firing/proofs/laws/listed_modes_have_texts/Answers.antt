use Rattle.pn_firing.proofs.OneListLemmas.{listed_assigned, listed_lines}
use Rattle.pn_firing.proofs.laws.listed_modes_have_texts.Goals as goal

pub returns-clause-assigned : goal.returns-clause-assigned
returns-clause-assigned c = listed_assigned

pub returns-clause-lines : goal.returns-clause-lines
returns-clause-lines c = listed_lines
