use Rattle.pn_outside.proofs.TakingLemmas.{puts_then}
use Rattle.pn_lines.proofs.escape.put_run.Goals as goal

pub returns-clause-puts : goal.returns-clause-puts
returns-clause-puts g c = puts_then _ _ _ _ _ c.put_escape.result c.in_ok-put_all.ensures.puts.all c.put_escape.ensures.puts
