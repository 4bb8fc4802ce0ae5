use Rattle.std.proofs.Common.{◌++◌, codes}
use Rattle.pn_outside.proofs.TakingLemmas.{puts_then, puts_stop}
use Rattle.pn_lines.specs.Escapes.{escaped}
use Rattle.pn_report.proofs.fault.put_detail.Goals as goal

pub returns-in_err-put_text-clause-puts : goal.returns-in_err-put_text-clause-puts
returns-in_err-put_text-clause-puts g c =
    puts_stop _ _ _ _ (escaped c.args.detail.now ++ codes "\n") c.from_residual.result c.from_residual.ensures.0 c.in_err-put_text.ensures.puts.front

pub returns-in_err-put_escaped-clause-puts : goal.returns-in_err-put_escaped-clause-puts
returns-in_err-put_escaped-clause-puts g c =
    let r = c.from_residual-in_err-put_escaped.result in
    puts_then _ _ _ _ _ r c.in_ok-put_text.ensures.puts.all
    (puts_stop _ _ _ _ (codes "\n") r c.from_residual-in_err-put_escaped.ensures.0 c.in_err-put_escaped.ensures.puts.front)

pub returns-clause-puts : goal.returns-clause-puts
returns-clause-puts g c =
    let r = c.put_text-2.result in
    puts_then _ _ _ _ _ r c.in_ok-put_text.ensures.puts.all (puts_then _ _ _ _ _ r c.in_ok-put_escaped.ensures.puts.all c.put_text-2.ensures.puts)
