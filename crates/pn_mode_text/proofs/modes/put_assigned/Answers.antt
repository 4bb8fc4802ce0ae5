use Rattle.std.proofs.Common.{[], ◌∷◌, ◌++◌, map}
use Rattle.pn_outside.proofs.TakingLemmas.{puts_then, puts_stop}
use Rattle.pn_mode_text.specs.Texts.{each_text, given_text, with_commas}
use Rattle.pn_mode_text.proofs.modes.put_assigned.Goals as goal

pub returns-in_err-put_text-clause-puts : goal.returns-in_err-put_text-clause-puts
returns-in_err-put_text-clause-puts g c = λ typed are.
    let r = c.from_residual-in_err-put_text.result in
    puts_then _ _ _ _ _ r c.in_ok-put_escaped.ensures.puts.all
    (puts_stop _ _ _ _ (with_commas (each_text (map (given_text c.args.decls.now) typed) c.args.values.now) ++ 93 ∷ []) r c.from_residual-in_err-put_text.ensures.0 c.in_err-put_text.ensures.puts.front)

pub returns-in_err-put_each_given-clause-puts : goal.returns-in_err-put_each_given-clause-puts
returns-in_err-put_each_given-clause-puts g c = λ typed are.
    let r = c.from_residual-in_err-put_each_given.result in
    let given = c.in_err-put_each_given.ensures.puts typed are in
    puts_then _ _ _ _ _ r c.in_ok-put_escaped.ensures.puts.all (puts_then _ _ _ _ _ r c.in_ok-put_text.ensures.puts.all
    (puts_stop _ _ _ _ (93 ∷ []) r c.from_residual-in_err-put_each_given.ensures.0 given.front))

pub returns-clause-puts : goal.returns-clause-puts
returns-clause-puts g c = λ typed are.
    let r = c.put_text-2.result in
    let given = c.in_ok-put_each_given.ensures.puts typed are in
    puts_then _ _ _ _ _ r c.in_ok-put_escaped.ensures.puts.all (puts_then _ _ _ _ _ r c.in_ok-put_text.ensures.puts.all
    (puts_then _ _ _ _ _ r given.all c.put_text-2.ensures.puts))
