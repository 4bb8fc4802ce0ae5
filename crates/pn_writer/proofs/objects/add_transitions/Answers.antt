use Rattle.pn_spelling.specs.WriteNets.{transition_element}
use Rattle.pn_writer.proofs.GivingLemmas.{next_fits}
use Rattle.pn_writer.proofs.objects.add_transitions.Goals as goal

pub add_transition-requires : goal.add_transition-requires
add_transition-requires c = next_fits transition_element c.args.transitions.now _ c.loop-transition.transition-index c.transition-item.result c.args.into.now c.loop-transition.into c.requires c.loop-transition.invariant c.loop-transition-test.true c.transition-item.is
