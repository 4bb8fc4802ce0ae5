use Rattle.std.proofs.Common.{map, rules}
use Rattle.pn_tree.specs.Views.{element_of}
use Rattle.pn_spelling.specs.Parts.{child_elements}
use Rattle.pn_spelling.specs.ReadDeclarations.{constant_read}
use Rattle.pn_spelling.proofs.PartLemmas.{gather_element, gather_text}
use Rattle.pn_hl_grammar.proofs.declarations.make_constants.Goals as goal
use Rattle.pn_hl_grammar.proofs.declarations.make_constants.Goals.{in-Element+in_ok-make_constant+in_ok-push, in_default}

pub loop-i-preserved : goal.loop-i-preserved
loop-i-preserved c = elim c.match-kid.branch [
  | in-Element+in_ok-make_constant+in_ok-push w ↦ (search (rules, gather_element constant_read (element_of c.args.view).kids c.loop-i.i (element_of w.in-Element.inner) (map constant_read (child_elements (element_of c.args.view))) c.loop-i.all c.loop-i.invariant w.in-Element.ensures.kid))
  | in_default w ↦ (search (rules, gather_text constant_read (element_of c.args.view).kids c.loop-i.i w.in_default.field-0.now (map constant_read (child_elements (element_of c.args.view))) c.loop-i.all c.loop-i.invariant w.in_default.ensures.kid))
]
