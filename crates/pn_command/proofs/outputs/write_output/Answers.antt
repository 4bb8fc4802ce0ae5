use Rattle.pn_outside.proofs.TakingLemmas.{puts_done}
use Rattle.pn_command.proofs.outputs.write_output.Goals as goal

pub returns-clause-puts : goal.returns-clause-puts
returns-clause-puts g c text has = puts_done c.args.sink.now c.put_output.new.sink c.done.new.self text c.done.result (c.in_ok-put_output.ensures.puts text has).all c.done.ensures.takes
