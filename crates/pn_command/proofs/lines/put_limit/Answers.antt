use Rattle.pn_command.proofs.lines.put_limit.Goals as goal

pub returns-in-Input-clause-puts : goal.returns-in-Input-clause-puts
returns-in-Input-clause-puts g c = rw c.in-Input.is c.put_longer.ensures.puts

pub returns-in-Output-clause-puts : goal.returns-in-Output-clause-puts
returns-in-Output-clause-puts g c = rw c.in-Output.is c.put_longer-in-Output.ensures.puts
