use Rattle.std.proofs.Common.{map, rules, sym, ap, ◌∙◌}
use Rattle.pn_tree.specs.Views.{element_of}
use Rattle.pn_spelling.specs.Parts.{child_elements}
use Rattle.pn_spelling.specs.ReadTerms.{operator_named, term_in}
use Rattle.pn_syntax.specs.declared.term.TermNode.TheVariants as nodes
use Rattle.pn_spelling.proofs.ReadLemmas.{operator_says}
use Rattle.pn_spelling.proofs.PartLemmas.{gather_element, gather_text}
use Rattle.pn_hl_grammar.proofs.terms.+make_term.Goals as goal
use Rattle.pn_hl_grammar.proofs.terms.+make_term.Goals.{make_arguments-in-Element+in_ok-make_inner_term+in_ok-push, make_arguments-in_default}

pub make_arguments-loop-i-preserved : goal.make_arguments-loop-i-preserved
make_arguments-loop-i-preserved t c = elim c.match-kid.branch [
  | make_arguments-in-Element+in_ok-make_inner_term+in_ok-push w ↦ (search (rules, gather_element term_in (element_of c.args.view).kids c.loop-i.i (element_of w.in-Element.inner) (map term_in (child_elements (element_of c.args.view))) c.loop-i.all c.loop-i.invariant w.in-Element.ensures.kid))
  | make_arguments-in_default w ↦ (search (rules, gather_text term_in (element_of c.args.view).kids c.loop-i.i w.in_default.field-0.now (map term_in (child_elements (element_of c.args.view))) c.loop-i.all c.loop-i.invariant w.in_default.ensures.kid))
]

pub make_node-returns-in_ok-make_arguments-in_default : goal.make_node-returns-in_ok-make_arguments-in_default
make_node-returns-in_ok-make_arguments-in_default t c =
    let e = element_of c.args.view in
    let name = c.name.ensures in
    let d = c.in_default in
    ap (λ o. nodes.Apply o c.in_ok-make_arguments-in_default.field-0) c.operator.ensures
    ∙ ap (nodes.Apply (operator_named e.name)) c.in_ok-make_arguments-in_default.ensures
    ∙ sym (operator_says e (map term_in (child_elements e)) (λ is. d.not-variable (name ∙ is)) (λ is. d.not-useroperator (name ∙ is)) (λ is. d.not-booleanconstant (name ∙ is)) (λ is. d.not-numberconstant (name ∙ is)) (λ is. d.not-finiteintrangeconstant (name ∙ is)) (λ is. d.not-stringconstant (name ∙ is)) (λ is. d.not-all (name ∙ is)) (λ is. d.not-empty (name ∙ is)) (λ is. d.not-emptylist (name ∙ is)) (λ is. d.not-partitionelementof (name ∙ is)))
