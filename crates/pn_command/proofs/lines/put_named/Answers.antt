use Rattle.std.proofs.Common.{[], ◌∷◌}
use Rattle.pn_outside.proofs.TakingLemmas.{puts_then, puts_stop}
use Rattle.pn_command.proofs.lines.put_named.Goals as goal

pub returns-in_err-put_escaped-clause-puts : goal.returns-in_err-put_escaped-clause-puts
returns-in_err-put_escaped-clause-puts g c =
    let r = c.from_residual-in_err-put_escaped.result in
    puts_then _ _ _ _ _ r c.in_ok-put_text.ensures.puts.all (puts_stop _ _ _ _ (10 ∷ []) r c.from_residual-in_err-put_escaped.ensures.0 c.in_err-put_escaped.ensures.puts.front)

pub returns-clause-puts : goal.returns-clause-puts
returns-clause-puts g c = puts_then _ _ _ _ _ c.put_text-2.result c.in_ok-put_text.ensures.puts.all (puts_then _ _ _ _ _ c.put_text-2.result c.in_ok-put_escaped.ensures.puts.all c.put_text-2.ensures.puts)
