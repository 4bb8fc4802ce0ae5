use Rattle.std.proofs.Common.{◌∷◌, ◌++◌, ap, ◌∙◌}
use Rattle.std.specs.List.{flat_map}
use Rattle.pn_outside.proofs.TakingLemmas.{puts_then, puts_stop}
use Rattle.pn_tree.specs.Canonical.{attr_text}
use Rattle.pn_tree.specs.Views.{element_of}
use Rattle.pn_tree.proofs.PutLemmas.{start_pieces, puts_as}
use Rattle.pn_tree.proofs.put.put_start.Goals as goal

pub returns-in_err-put_name-clause-puts : goal.returns-in_err-put_name-clause-puts
returns-in_err-put_name-clause-puts g c =
    let e = element_of c.args.part in
    let r = c.from_residual.result in
    puts_as _ _ _ _ r
    (start_pieces c.name.result.now (flat_map attr_text e.attrs) ∙ ap (λ l. 60 ∷ (l ++ flat_map attr_text e.attrs)) c.name.ensures)
    (puts_stop _ _ _ _ (flat_map attr_text e.attrs) r c.from_residual.ensures.0 c.in_err-put_name.ensures.puts.front)

pub returns-clause-puts : goal.returns-clause-puts
returns-clause-puts g c =
    let e = element_of c.args.part in
    let r = c.put_attrs.result in
    puts_as _ _ _ _ r
    (start_pieces c.name.result.now (flat_map attr_text e.attrs) ∙ ap (λ l. 60 ∷ (l ++ flat_map attr_text e.attrs)) c.name.ensures)
    (puts_then _ _ _ _ _ r c.in_ok-put_name.ensures.puts.all c.put_attrs.ensures.puts)
