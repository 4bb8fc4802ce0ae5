use Rattle.std.proofs.Common.{◌∙◌, sym, None}
use Rattle.pn_spelling.specs.Parts.{child_named, has_name}
use Rattle.pn_spelling.proofs.PartLemmas.{find_beside, find_failing, find_passing}
use Rattle.pn_tree.specs.Views.{element_of}
use Rattle.pn_checks.proofs.told.child_called.Goals as goal
use Rattle.pn_checks.proofs.told.child_called.Goals.{in-Element+else-has_name, in_default}

pub returns-then-has_name : goal.returns-then-has_name
returns-then-has_name c =
    sym (find_passing (has_name c.args.name.now) (element_of c.args.view).kids c.loop-i.i (element_of c.in-Element.inner) (child_named c.args.name.now (element_of c.args.view)) c.loop-i.invariant c.in-Element.ensures.kid
    (sym c.has_name.ensures ∙ c.if-has_name.true))

pub loop-i-preserved : goal.loop-i-preserved
loop-i-preserved c = elim c.match-kid.branch [
  | in-Element+else-has_name w ↦ find_failing (has_name c.args.name.now) (element_of c.args.view).kids c.loop-i.i (element_of w.in-Element.inner) None (child_named c.args.name.now (element_of c.args.view)) c.loop-i.invariant
      w.in-Element.ensures.kid (sym w.has_name.ensures ∙ w.if-has_name.false)
  | in_default w ↦ find_beside (has_name c.args.name.now) (element_of c.args.view).kids c.loop-i.i w.in_default.field-0.now None (child_named c.args.name.now (element_of c.args.view)) c.loop-i.invariant w.in_default.ensures.kid
]
