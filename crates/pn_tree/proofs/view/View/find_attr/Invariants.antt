use Rattle.std.proofs.Common.{◌≡◌, drop}
use Rattle.pn_tree.specs.Elements.{attr_value}
use Rattle.pn_tree.specs.Views.{element_of}
use Rattle.pn_tree.proofs.view.View.find_attr.Given as goal

abbrev pub invariant-loop-i : goal.invariant-loop-i
invariant-loop-i l = attr_value l.name (drop l.i (element_of l.self).attrs) ≡ attr_value l.name (element_of l.self).attrs
