use Rattle.std.proofs.Common.{◌++◌, codes}
use Rattle.pn_outside.proofs.TakingLemmas.{puts_then, puts_stop}
use Rattle.pn_report.specs.Lines.{count_text}
use Rattle.pn_command.proofs.lines.put_bad_mode.Goals as goal

pub returns-in_err-put_count-clause-puts : goal.returns-in_err-put_count-clause-puts
returns-in_err-put_count-clause-puts g c =
    puts_stop _ _ _ _ (count_text (codes ": bad mode at byte ") c.args.at ++ codes "\n") c.from_residual.result c.from_residual.ensures.0 c.in_err-put_count.ensures.puts.front

pub returns-in_err-put_count-2-clause-puts : goal.returns-in_err-put_count-2-clause-puts
returns-in_err-put_count-2-clause-puts g c =
    let r = c.from_residual-in_err-put_count-2.result in
    puts_then _ _ _ _ _ r c.in_ok-put_count.ensures.puts.all (puts_stop _ _ _ _ (codes "\n") r c.from_residual-in_err-put_count-2.ensures.0 c.in_err-put_count-2.ensures.puts.front)

pub returns-clause-puts : goal.returns-clause-puts
returns-clause-puts g c = puts_then _ _ _ _ _ c.put_text.result c.in_ok-put_count.ensures.puts.all (puts_then _ _ _ _ _ c.put_text.result c.in_ok-put_count-2.ensures.puts.all c.put_text.ensures.puts)
