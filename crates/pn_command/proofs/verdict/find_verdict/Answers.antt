use Rattle.std.proofs.Common.{Err, ap}
use Rattle.pn_command.proofs.verdict.find_verdict.Goals as goal

pub returns-in-Err-Fault : goal.returns-in-Err-Fault
returns-in-Err-Fault c = record { verdict = λ rises. c.in-Err-Fault.ensures.least c.in-Err-Fault.fault (ap (λ r. Err r) c.in-Err-Fault.field-0-is) rises }
