use Rattle.pn_command.proofs.SteppedLemmas.{step_written}
use Rattle.pn_command.proofs.laws.what_step_writes_has_the_new_marking.Goals as goal

pub returns : goal.returns
returns c words tree f a accepted = step_written tree f accepted words a
