use Rattle.pn_command.proofs.AnswerLemmas.{modes_listed}
use Rattle.pn_command.proofs.laws.modes_are_listed.Goals as goal

pub returns : goal.returns
returns c = modes_listed
