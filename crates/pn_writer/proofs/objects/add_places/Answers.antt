use Rattle.pn_spelling.specs.WriteNets.{place_element}
use Rattle.pn_writer.proofs.GivingLemmas.{next_fits}
use Rattle.pn_writer.proofs.objects.add_places.Goals as goal

pub add_place-requires : goal.add_place-requires
add_place-requires c = next_fits place_element c.args.places.now _ c.loop-place.place-index c.place-item.result c.args.into.now c.loop-place.into c.requires c.loop-place.invariant c.loop-place-test.true c.place-item.is
