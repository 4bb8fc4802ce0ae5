use Rattle.std.proofs.Common.{◌≡◌, take}
use Rattle.pn_tree.specs.Views.{element_of}
use Rattle.pn_shape.specs.Faults.{own_text}
use Rattle.pn_shape_faults.proofs.kids.own_text.Given as goal

abbrev pub invariant-loop-i : goal.invariant-loop-i
invariant-loop-i l = l.text ≡ own_text (take l.i (element_of l.view).kids)
