use Rattle.pn_writer.proofs.GivingLemmas.{entry, inside}
use Rattle.pn_writer.proofs.declarations.add_declarations.Goals as goal

pub begin-requires-clause-depth : goal.begin-requires-clause-depth
begin-requires-clause-depth c = (entry _ _ _ _ _ c.requires).room.room

pub add_each-requires : goal.add_each-requires
add_each-requires c = inside _ _ _ _ _ _ _ c.requires c.in_ok-begin.ensures
