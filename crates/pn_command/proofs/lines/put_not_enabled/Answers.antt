use Rattle.std.proofs.Common.{◌++◌}
use Rattle.pn_outside.proofs.TakingLemmas.{puts_then, puts_stop}
use Rattle.pn_command.specs.Lines.{shortage_text}
use Rattle.pn_command.proofs.lines.put_not_enabled.Goals as goal

pub returns-in_err-put_text-clause-puts : goal.returns-in_err-put_text-clause-puts
returns-in_err-put_text-clause-puts g c =
    puts_stop _ _ _ _ (c.args.token.now ++ shortage_text c.args.need c.args.has) c.from_residual.result c.from_residual.ensures.0 c.in_err-put_text.ensures.puts.front

pub returns-in_err-put_all-clause-puts : goal.returns-in_err-put_all-clause-puts
returns-in_err-put_all-clause-puts g c =
    let r = c.from_residual-in_err-put_all.result in
    puts_then _ _ _ _ _ r c.in_ok-put_text.ensures.puts.all (puts_stop _ _ _ _ (shortage_text c.args.need c.args.has) r c.from_residual-in_err-put_all.ensures.0 c.in_err-put_all.ensures.puts.front)

pub returns-clause-puts : goal.returns-clause-puts
returns-clause-puts g c = puts_then _ _ _ _ _ c.put_shortage.result c.in_ok-put_text.ensures.puts.all (puts_then _ _ _ _ _ c.put_shortage.result c.in_ok-put_all.ensures.puts.all c.put_shortage.ensures.puts)
