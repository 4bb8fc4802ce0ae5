use Rattle.pn_spelling.specs.WriteDeclarations.{value_element}
use Rattle.pn_writer.proofs.GivingLemmas.{next_fits}
use Rattle.pn_writer.proofs.declarations.add_values.Goals as goal

pub add_value-requires : goal.add_value-requires
add_value-requires c = next_fits value_element c.args.values.now _ c.loop-value.value-index c.value-item.result c.args.into.now c.loop-value.into c.requires c.loop-value.invariant c.loop-value-test.true c.value-item.is
