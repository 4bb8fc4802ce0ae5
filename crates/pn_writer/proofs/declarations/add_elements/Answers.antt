use Rattle.pn_spelling.specs.WriteDeclarations.{part_element}
use Rattle.pn_writer.proofs.GivingLemmas.{next_fits}
use Rattle.pn_writer.proofs.declarations.add_elements.Goals as goal

pub add_element-requires : goal.add_element-requires
add_element-requires c = next_fits part_element c.args.elements.now _ c.loop-element.element-index c.element-item.result c.args.into.now c.loop-element.into c.requires c.loop-element.invariant c.loop-element-test.true c.element-item.is
