use Rattle.std.proofs.Common.{◌≡◌, map, take}
use Rattle.pn_tree.specs.Building.{at_innermost}
use Rattle.pn_tree.specs.Copies.{with_kids}
use Rattle.pn_tree.specs.declared.element.Child.TheVariants as children
use Rattle.pn_writer.proofs.giving.add_parts.Given as goal

abbrev pub invariant-loop-part : goal.invariant-loop-part
invariant-loop-part l = l.into ≡ at_innermost (with_kids (map children.Element (take l.part-index l.parts))) l.fn.into
