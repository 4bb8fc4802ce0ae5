use Rattle.pn_writer.proofs.GivingLemmas.{entry, inside}
use Rattle.pn_writer.proofs.declarations.add_named_sort.Goals as goal

pub begin_named-requires-clause-room : goal.begin_named-requires-clause-room
begin_named-requires-clause-room c = (entry _ _ _ _ _ c.requires).room

pub begin_named-requires-clause-attrs : goal.begin_named-requires-clause-attrs
begin_named-requires-clause-attrs c = (entry _ _ _ _ _ c.requires).attrs

pub add_body-requires : goal.add_body-requires
add_body-requires c = inside _ _ _ _ _ _ _ c.requires c.in_ok-begin_named.ensures
