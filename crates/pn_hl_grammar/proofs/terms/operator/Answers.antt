use Rattle.std.proofs.Common.{sym, ap, ◌∙◌}
use Rattle.std.specs.Option.{unwrap_or}
use Rattle.pn_operators.specs.declared.op.Op.TheVariants as op
use Rattle.pn_spelling.specs.ReadTerms.{operator_named}
use Rattle.pn_spelling.proofs.OperatorLemmas.{operator_found}
use Rattle.pn_hl_grammar.proofs.terms.operator.Goals as goal

pub returns-in-Some : goal.returns-in-Some
returns-in-Some c = sym (ap (λ r. unwrap_or r op.DotConstant) c.in-Some.is) ∙ operator_found c.name.result.now c.find_op.result c.find_op.ensures ∙ ap operator_named c.name.ensures

pub returns-in-None : goal.returns-in-None
returns-in-None c = sym (ap (λ r. unwrap_or r op.DotConstant) c.in-None.is) ∙ operator_found c.name.result.now c.find_op.result c.find_op.ensures ∙ ap operator_named c.name.ensures
