use Rattle.std.proofs.Common.{codes}
use Rattle.pn_outside.specs.declared.traits.Failed.{Failed}
use Rattle.pn_outside.proofs.TakingLemmas.{puts_then, puts_stop}
use Rattle.pn_report.specs.Lines.{count_text}
use Rattle.pn_command.proofs.lines.put_not_a_mode.Goals as goal

pub returns-in_err-put_count-clause-puts : goal.returns-in_err-put_count-clause-puts
returns-in_err-put_count-clause-puts g c =
    puts_stop Failed c.args.sink.now c.put_count.new.sink (count_text (codes "pnml: word ") c.args.word) (codes ": not a mode\n") c.from_residual.result c.from_residual.ensures.0 c.in_err-put_count.ensures.puts.front

pub returns-clause-puts : goal.returns-clause-puts
returns-clause-puts g c =
    puts_then c.args.sink.now c.put_count.new.sink c.put_text.new.sink (count_text (codes "pnml: word ") c.args.word) (codes ": not a mode\n") c.put_text.result c.in_ok-put_count.ensures.puts.all c.put_text.ensures.puts
