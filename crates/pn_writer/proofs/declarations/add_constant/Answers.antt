use Rattle.pn_writer.proofs.GivingLemmas.{entry}
use Rattle.pn_writer.proofs.declarations.add_constant.Goals as goal

pub begin_named-requires-clause-room : goal.begin_named-requires-clause-room
begin_named-requires-clause-room c = (entry _ _ _ _ _ c.requires).room

pub begin_named-requires-clause-attrs : goal.begin_named-requires-clause-attrs
begin_named-requires-clause-attrs c = (entry _ _ _ _ _ c.requires).attrs
