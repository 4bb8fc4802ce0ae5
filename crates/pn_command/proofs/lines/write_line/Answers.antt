use Rattle.pn_outside.proofs.TakingLemmas.{puts_done}
use Rattle.pn_command.specs.Lines.{line_text}
use Rattle.pn_command.proofs.lines.write_line.Goals as goal

pub returns-clause-puts : goal.returns-clause-puts
returns-clause-puts g c = puts_done c.args.sink.now c.put_line.new.sink c.done.new.self (line_text c.args.line.now) c.done.result c.in_ok-put_line.ensures.puts.all c.done.ensures.takes
