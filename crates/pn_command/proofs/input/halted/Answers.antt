use Rattle.std.proofs.Common.{IfSome, subst}
use Rattle.pn_command.specs.Reading.{HaltSays}
use Rattle.pn_command.proofs.ReadingLemmas.{stopped_so}
use Rattle.pn_command.proofs.input.halted.Goals as goal

pub returns-in-Scanner-clause-says : goal.returns-in-Scanner-clause-says
returns-in-Scanner-clause-says c old says = stopped_so c.in-Scanner.fault c.stopped.result old c.stopped.ensures.says (subst (λ h. IfSome old (HaltSays h)) c.in-Scanner.is says)
