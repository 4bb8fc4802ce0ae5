use Rattle.pn_command.proofs.AnswerLemmas.{modes_listed}
use Rattle.pn_command.proofs.SteppedLemmas.{listed_step}
use Rattle.pn_command.specs.Words.{argument_of}
use Rattle.pn_command.proofs.laws.what_modes_lists_steps.Goals as goal

pub returns : goal.returns
returns c words tree f a accepted due ended = listed_step tree f (argument_of words) a.out accepted (modes_listed words f a due ended)
