use Rattle.pn_firing.proofs.OneListLemmas.{lines_once, listed_once, listed_or_not, unlisted_once}
use Rattle.pn_firing.proofs.laws.one_answer.Goals as goal

pub returns-clause-list : goal.returns-clause-list
returns-clause-list c = listed_once

pub returns-clause-text : goal.returns-clause-text
returns-clause-text c = lines_once

pub returns-clause-fault : goal.returns-clause-fault
returns-clause-fault c = unlisted_once

pub returns-clause-either : goal.returns-clause-either
returns-clause-either c = listed_or_not
