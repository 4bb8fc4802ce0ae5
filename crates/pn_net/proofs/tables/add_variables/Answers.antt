use Rattle.std.proofs.Common.{◌≡◌, ◌++◌, Some, ap, sym, ◌∙◌, subst, append-nil}
use Rattle.std.specs.List.{flat_map}
use Rattle.std.specs.Option.{option_to_list}
use Rattle.pn_terms.specs.Variables.{variables_in_term}
use Rattle.pn_net.specs.Labels.{said}
use Rattle.pn_net.proofs.RowLemmas.{AreSame, same_both, same_itself}
use Rattle.pn_net.proofs.tables.add_variables.Goals as goal

pub returns-in_ok-extend_from_slice : goal.returns-in_ok-extend_from_slice
returns-in_ok-extend_from_slice c =
    let old = c.args.all.now.items in
    let more = c.in_ok-more.more.items in
    let label : said c.args.label.now ≡ Some c.get.result.now.value = ap said c.in-Some.is ∙ ap (λ l. Some l.value) (sym c.get.ensures) in
    let vars = variables_in_term c.args.decls.now c.get.result.now.value in
    let all = flat_map (variables_in_term c.args.decls.now) (option_to_list (said c.args.label.now)) in
    let whole : vars ≡ all = sym (append-nil vars) ∙ ap (λ o. flat_map (variables_in_term c.args.decls.now) (option_to_list o)) (sym label) in
    subst (λ xs. AreSame xs (old ++ all)) (sym (c.in_ok-extend_from_slice.ensures.items ∙ ap (λ xs. old ++ xs) c.deref.ensures.value))
    (subst (λ xs. AreSame (old ++ more) (old ++ xs)) whole (same_both old more old vars (same_itself old) c.in_ok-more.ensures.each))
