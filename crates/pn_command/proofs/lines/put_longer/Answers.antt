use Rattle.std.proofs.Common.{codes}
use Rattle.pn_outside.specs.declared.limits.TheConstants.{BYTES}
use Rattle.pn_outside.proofs.TakingLemmas.{puts_then}
use Rattle.pn_report.specs.Lines.{count_text}
use Rattle.pn_command.proofs.lines.put_longer.Goals as goal

pub returns-clause-puts : goal.returns-clause-puts
returns-clause-puts g c =
    puts_then c.args.sink.now c.put_count.new.sink c.put_text.new.sink (count_text c.args.label.now BYTES) (codes " bytes\n") c.put_text.result c.in_ok-put_count.ensures.puts.all c.put_text.ensures.puts
