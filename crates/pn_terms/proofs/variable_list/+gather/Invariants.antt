use Rattle.std.proofs.Common.{◌≡◌, ◌++◌, take}
use Rattle.std.specs.List.{flat_map}
use Rattle.pn_terms.specs.Variables.{variables_in_term}
use Rattle.pn_terms.proofs.variable_list.+gather.Given as goal

abbrev pub invariant-gather_all-loop-term : goal.invariant-gather_all-loop-term
invariant-gather_all-loop-term l = l.all.items ≡ l.fn.all.items ++ flat_map (variables_in_term l.decls) (take l.term-index l.terms)
