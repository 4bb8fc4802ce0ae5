use Rattle.pn_spelling.specs.WriteNets.{arc_element}
use Rattle.pn_writer.proofs.GivingLemmas.{next_fits}
use Rattle.pn_writer.proofs.objects.add_arcs.Goals as goal

pub add_arc-requires : goal.add_arc-requires
add_arc-requires c = next_fits arc_element c.args.arcs.now _ c.loop-arc.arc-index c.arc-item.result c.args.into.now c.loop-arc.into c.requires c.loop-arc.invariant c.loop-arc-test.true c.arc-item.is
