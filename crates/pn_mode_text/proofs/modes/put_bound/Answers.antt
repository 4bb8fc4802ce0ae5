use Rattle.pn_outside.proofs.TakingLemmas.{puts_then, puts_stop}
use Rattle.pn_mode_text.specs.Texts.{value_text}
use Rattle.pn_mode_text.proofs.modes.put_bound.Goals as goal

pub returns-in_err-put_text-clause-puts : goal.returns-in_err-put_text-clause-puts
returns-in_err-put_text-clause-puts g c =
    let r = c.from_residual-in_err-put_text.result in
    puts_then _ _ _ _ _ r c.in_ok-put_escaped.ensures.puts.all
    (puts_stop _ _ _ _ (value_text c.args.decls.now c.args.sort.now c.args.value.now) r c.from_residual-in_err-put_text.ensures.0 c.in_err-put_text.ensures.puts.front)

pub returns-clause-puts : goal.returns-clause-puts
returns-clause-puts g c =
    let r = c.put_value.result in
    puts_then _ _ _ _ _ r c.in_ok-put_escaped.ensures.puts.all (puts_then _ _ _ _ _ r c.in_ok-put_text.ensures.puts.all c.put_value.ensures.puts)
