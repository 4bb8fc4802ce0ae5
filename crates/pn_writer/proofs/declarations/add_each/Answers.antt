use Rattle.pn_spelling.specs.WriteDeclarations.{declaration_element}
use Rattle.pn_writer.proofs.GivingLemmas.{next_fits}
use Rattle.pn_writer.proofs.declarations.add_each.Goals as goal

pub add_declaration-requires : goal.add_declaration-requires
add_declaration-requires c = next_fits declaration_element c.args.items.now _ c.loop-item.item-index c.item-item.result c.args.into.now c.loop-item.into c.requires c.loop-item.invariant c.loop-item-test.true c.item-item.is
