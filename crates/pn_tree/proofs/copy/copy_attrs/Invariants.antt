use Rattle.std.proofs.Common.{◌≡◌, take}
use Rattle.pn_tree.specs.Building.{at_innermost}
use Rattle.pn_tree.specs.Copies.{with_attrs}
use Rattle.pn_tree.specs.Views.{element_of}
use Rattle.pn_tree.proofs.copy.copy_attrs.Given as goal

abbrev pub invariant-loop-i : goal.invariant-loop-i
invariant-loop-i l = l.builder ≡ at_innermost (with_attrs (take l.i (element_of l.part).attrs)) l.initial.builder
