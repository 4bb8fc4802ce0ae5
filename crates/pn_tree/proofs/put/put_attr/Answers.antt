use Rattle.std.proofs.Common.{◌∷◌, [], ◌++◌, refl}
use Rattle.pn_outside.proofs.TakingLemmas.{puts_then, puts_stop}
use Rattle.pn_tree.specs.Canonical.{escaped_value}
use Rattle.pn_tree.specs.declared.element.Attr.{Attr}
use Rattle.pn_tree.proofs.PutLemmas.{attr_pieces, puts_as}
use Rattle.pn_tree.proofs.put.put_attr.Goals as goal

pub returns-in_err-put_name-clause-puts : goal.returns-in_err-put_name-clause-puts
returns-in_err-put_name-clause-puts g c =
    let r = c.from_residual.result in
    let a : Attr = record { name = c.args.name.now; value = c.args.value.now } in
    puts_as _ _ _ _ r (attr_pieces a a.name a.value refl refl)
    (puts_stop _ _ _ _ (escaped_value a.value ++ 34 ∷ []) r c.from_residual.ensures.0 c.in_err-put_name.ensures.puts.front)

pub returns-in_err-put_escaped-clause-puts : goal.returns-in_err-put_escaped-clause-puts
returns-in_err-put_escaped-clause-puts g c =
    let r = c.from_residual-in_err-put_escaped.result in
    let a : Attr = record { name = c.args.name.now; value = c.args.value.now } in
    puts_as _ _ _ _ r (attr_pieces a a.name a.value refl refl)
    (puts_then _ _ _ _ _ r c.in_ok-put_name.ensures.puts.all (puts_stop _ _ _ _ (34 ∷ []) r c.from_residual-in_err-put_escaped.ensures.0 c.in_err-put_escaped.ensures.puts.front))

pub returns-clause-puts : goal.returns-clause-puts
returns-clause-puts g c =
    let r = c.put_text.result in
    puts_as _ _ _ _ r (attr_pieces (record { name = c.args.name.now; value = c.args.value.now }) c.args.name.now c.args.value.now refl refl)
    (puts_then _ _ _ _ _ r c.in_ok-put_name.ensures.puts.all (puts_then _ _ _ _ _ r c.in_ok-put_escaped.ensures.puts.all c.put_text.ensures.puts))
