use Rattle.std.proofs.Common.{◌≡◌, take}
use Rattle.pn_tree.specs.Building.{at_innermost}
use Rattle.pn_tree.specs.Copies.{with_kids}
use Rattle.pn_spelling.specs.Writing.{all_kids}
use Rattle.pn_spelling.specs.WriteDeclarations.{part_element}
use Rattle.pn_writer.proofs.declarations.add_elements.Given as goal

abbrev pub invariant-loop-element : goal.invariant-loop-element
invariant-loop-element l = l.into ≡ at_innermost (with_kids (all_kids part_element (take l.element-index l.elements))) l.fn.into
