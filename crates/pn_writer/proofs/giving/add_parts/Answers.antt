use Rattle.pn_writer.proofs.GivingLemmas.{next_part_fits}
use Rattle.pn_writer.proofs.giving.add_parts.Goals as goal

pub place-requires-clause-depth : goal.place-requires-clause-depth
place-requires-clause-depth c = next_part_fits c.args.parts.now _ c.loop-part.part-index c.part-item.result _ c.args.into.now c.loop-part.into c.requires c.loop-part.invariant c.loop-part-test.true c.part-item.is c.root.ensures.root
