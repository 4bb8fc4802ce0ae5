use Rattle.std.proofs.Common.{◌++◌, codes}
use Rattle.pn_outside.proofs.TakingLemmas.{puts_then, puts_stop}
use Rattle.pn_command.proofs.lines.put_too_often.Goals as goal

pub returns-in_err-put_text-clause-puts : goal.returns-in_err-put_text-clause-puts
returns-in_err-put_text-clause-puts g c =
    puts_stop _ _ _ _ (c.args.text.now ++ codes "\n") c.from_residual.result c.from_residual.ensures.0 c.in_err-put_text.ensures.puts.front

pub returns-in_err-put_all-clause-puts : goal.returns-in_err-put_all-clause-puts
returns-in_err-put_all-clause-puts g c =
    let r = c.from_residual-in_err-put_all.result in
    puts_then _ _ _ _ _ r c.in_ok-put_text.ensures.puts.all (puts_stop _ _ _ _ (codes "\n") r c.from_residual-in_err-put_all.ensures.0 c.in_err-put_all.ensures.puts.front)

pub returns-clause-puts : goal.returns-clause-puts
returns-clause-puts g c = puts_then _ _ _ _ _ c.put_text-2.result c.in_ok-put_text.ensures.puts.all (puts_then _ _ _ _ _ c.put_text-2.result c.in_ok-put_all.ensures.puts.all c.put_text-2.ensures.puts)
