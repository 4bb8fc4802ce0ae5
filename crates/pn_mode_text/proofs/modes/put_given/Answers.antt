use Rattle.std.proofs.Common.{◌∷◌, ◌++◌, ap, ◌∙◌}
use Rattle.pn_lines.specs.Escapes.{escaped}
use Rattle.pn_outside.proofs.TakingLemmas.{puts_then}
use Rattle.pn_tree.proofs.PutLemmas.{puts_as}
use Rattle.pn_mode_text.specs.Texts.{value_text}
use Rattle.pn_mode_text.proofs.VariableLemmas.{typed_once}
use Rattle.pn_mode_text.proofs.modes.put_given.Goals as goal

pub returns-clause-puts : goal.returns-clause-puts
returns-clause-puts g c = λ x is.
    let items = c.args.decls.now in
    let value = c.args.value.now in
    let told = typed_once items c.args.v c.variable_id.result.now c.variable_sort.result.now x c.variable_id.ensures c.variable_sort.ensures is in
    puts_then _ _ _ _ _ c.put_bound.result c.in_ok-put_comma.ensures.puts.all
    (puts_as _ _ _ _ c.put_bound.result
    (ap (λ id. escaped id ++ (61 ∷ value_text items c.variable_sort.result.now value)) told.0 ∙ ap (λ s. escaped x.id ++ (61 ∷ value_text items s value)) told.1) c.put_bound.ensures.puts)
