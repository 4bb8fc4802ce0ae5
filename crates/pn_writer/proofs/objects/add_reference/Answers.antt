use Rattle.pn_writer.proofs.GivingLemmas.{entry, inside}
use Rattle.pn_writer.proofs.objects.add_reference.Goals as goal

pub begin_with_two-requires-clause-room : goal.begin_with_two-requires-clause-room
begin_with_two-requires-clause-room c = (entry _ _ _ _ _ c.requires).room

pub begin_with_two-requires-clause-name : goal.begin_with_two-requires-clause-name
begin_with_two-requires-clause-name c = (entry _ _ _ _ _ c.requires).name

pub begin_with_two-requires-clause-attrs : goal.begin_with_two-requires-clause-attrs
begin_with_two-requires-clause-attrs c = (entry _ _ _ _ _ c.requires).attrs

pub add_head-requires : goal.add_head-requires
add_head-requires c = inside _ _ _ _ _ _ _ c.requires c.in_ok-begin_with_two.ensures
