use Rattle.pn_command.proofs.lines.put_line.Goals as goal

pub returns-in-Usage-clause-puts : goal.returns-in-Usage-clause-puts
returns-in-Usage-clause-puts g c = rw c.in-Usage.is c.put_text.ensures.puts
