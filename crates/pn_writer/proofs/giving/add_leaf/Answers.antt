use Rattle.pn_writer.proofs.GivingLemmas.{entry}
use Rattle.pn_writer.proofs.giving.add_leaf.Goals as goal

pub begin-requires-clause-name : goal.begin-requires-clause-name
begin-requires-clause-name c = (entry _ _ _ _ _ c.requires).name

pub begin-requires-clause-depth : goal.begin-requires-clause-depth
begin-requires-clause-depth c = (entry _ _ _ _ _ c.requires).room.room
