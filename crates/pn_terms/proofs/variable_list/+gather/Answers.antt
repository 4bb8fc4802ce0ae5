use Rattle.std.proofs.Common.{◌≡◌, ◌++◌, ◌∙◌, ap, sym, subst, OnOk}
use Rattle.std.specs.List.{flat_map}
use Rattle.pn_terms.specs.Variables.{variables_in_term}
use Rattle.pn_terms.proofs.VariableLemmas.{variables_of_apply}
use Rattle.pn_terms.proofs.variable_list.+gather.Goals as goal

pub gather-returns-in-Apply : goal.gather-returns-in-Apply
gather-returns-in-Apply t c =
    let items = c.args.decls.now in
    let all = ap (flat_map (variables_in_term items)) c.as_slice.ensures ∙ sym (variables_of_apply items c.args.term.now c.in-Apply.op c.in-Apply.args c.in-Apply.is) in
    subst (λ vs. OnOk c.gather_all.result (c.gather_all.new.all.items ≡ c.args.all.now.items ++ vs)) all c.gather_all.ensures
