use Rattle.std.proofs.Common.{◌≡◌, drop}
use Rattle.pn_tree.specs.Views.{element_of}
use Rattle.pn_spelling.specs.Parts.{child_elements, elements_among}
use Rattle.pn_spelling.proofs.parts.first_element.Given as goal

abbrev pub invariant-loop-i : goal.invariant-loop-i
invariant-loop-i l = child_elements (element_of l.view) ≡ elements_among (drop l.i (element_of l.view).kids)
