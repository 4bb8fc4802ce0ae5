use Rattle.std.proofs.Common.{◌≡◌, take}
use Rattle.pn_tree.specs.Building.{at_innermost}
use Rattle.pn_tree.specs.Copies.{with_kids}
use Rattle.pn_spelling.specs.Writing.{all_kids}
use Rattle.pn_spelling.specs.WriteDeclarations.{constant_element}
use Rattle.pn_writer.proofs.declarations.add_constants.Given as goal

abbrev pub invariant-loop-constant : goal.invariant-loop-constant
invariant-loop-constant l = l.into ≡ at_innermost (with_kids (all_kids constant_element (take l.constant-index l.constants))) l.fn.into
