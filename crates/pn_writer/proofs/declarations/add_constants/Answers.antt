use Rattle.pn_spelling.specs.WriteDeclarations.{constant_element}
use Rattle.pn_writer.proofs.GivingLemmas.{next_fits}
use Rattle.pn_writer.proofs.declarations.add_constants.Goals as goal

pub add_constant-requires : goal.add_constant-requires
add_constant-requires c = next_fits constant_element c.args.constants.now _ c.loop-constant.constant-index c.constant-item.result c.args.into.now c.loop-constant.into c.requires c.loop-constant.invariant c.loop-constant-test.true c.constant-item.is
