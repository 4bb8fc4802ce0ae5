use Rattle.std.proofs.Common.{◌∙◌}
use Rattle.pn_tree.specs.Views.{element_of}
use Rattle.pn_shape_faults.proofs.WalkLemmas.{text_joined, element_joined}
use Rattle.pn_shape_faults.proofs.kids.own_text.Goals as goal
use Rattle.pn_shape_faults.proofs.kids.own_text.Goals.{in-Text+in_ok-push_str, in_default}

pub loop-i-preserved : goal.loop-i-preserved
loop-i-preserved c = elim c.match-kid.branch [
  | in-Text+in_ok-push_str w ↦ w.text-is
      ∙ (w.in_ok-push_str.ensures.ok ∙ text_joined (element_of c.args.view).kids c.loop-i.i w.in-Text.more.now c.loop-i.text w.in-Text.ensures.kid c.loop-i.invariant)
  | in_default w ↦ w.text-is ∙ element_joined (element_of c.args.view).kids c.loop-i.i (element_of w.in_default.field-0) c.loop-i.text w.in_default.ensures.kid c.loop-i.invariant
]
