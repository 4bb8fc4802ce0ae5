use Rattle.std.proofs.Common.{◌∷◌, [], ◌++◌, ap}
use Rattle.pn_outside.proofs.TakingLemmas.{puts_then, puts_stop}
use Rattle.pn_tree.specs.Canonical.{declaration, element_text}
use Rattle.pn_tree.proofs.PutLemmas.{puts_as}
use Rattle.pn_tree.proofs.put.put_tree.Goals as goal

pub returns-in_err-put_text-clause-puts : goal.returns-in_err-put_text-clause-puts
returns-in_err-put_text-clause-puts g c =
    puts_stop _ _ _ _ (element_text c.args.tree.now ++ 10 ∷ []) c.from_residual.result c.from_residual.ensures.0 c.in_err-put_text.ensures.puts.front

pub returns-in_err-put_element-clause-puts : goal.returns-in_err-put_element-clause-puts
returns-in_err-put_element-clause-puts g c =
    let r = c.from_residual-in_err-put_element.result in
    puts_as _ _ _ _ r (ap (λ e. declaration ++ (element_text e ++ 10 ∷ [])) c.root.ensures.root)
    (puts_then _ _ _ _ _ r c.in_ok-put_text.ensures.puts.all (puts_stop _ _ _ _ (10 ∷ []) r c.from_residual-in_err-put_element.ensures.0 c.in_err-put_element.ensures.puts.front))

pub returns-clause-puts : goal.returns-clause-puts
returns-clause-puts g c =
    let r = c.put_text-2.result in
    puts_as _ _ _ _ r (ap (λ e. declaration ++ (element_text e ++ 10 ∷ [])) c.root.ensures.root)
    (puts_then _ _ _ _ _ r c.in_ok-put_text.ensures.puts.all (puts_then _ _ _ _ _ r c.in_ok-put_element.ensures.puts.all c.put_text-2.ensures.puts))
