use Rattle.pn_spelling.specs.WriteNets.{reference_element}
use Rattle.pn_writer.proofs.GivingLemmas.{next_fits}
use Rattle.pn_writer.proofs.objects.add_references.Goals as goal

pub add_reference-requires : goal.add_reference-requires
add_reference-requires c = next_fits (reference_element c.args.name.now) c.args.references.now _ c.loop-reference.reference-index c.reference-item.result c.args.into.now c.loop-reference.into c.requires c.loop-reference.invariant c.loop-reference-test.true c.reference-item.is
