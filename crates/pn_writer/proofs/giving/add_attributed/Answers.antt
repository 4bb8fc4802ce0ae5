use Rattle.pn_writer.proofs.GivingLemmas.{entry, first_of}
use Rattle.pn_writer.proofs.giving.add_attributed.Goals as goal

pub begin_with-requires-clause-room : goal.begin_with-requires-clause-room
begin_with-requires-clause-room c = (entry _ _ _ _ _ c.requires).room

pub begin_with-requires-clause-name : goal.begin_with-requires-clause-name
begin_with-requires-clause-name c = (entry _ _ _ _ _ c.requires).name

pub begin_with-requires-clause-key : goal.begin_with-requires-clause-key
begin_with-requires-clause-key c = (first_of _ _ _ _ _ _ _ c.requires).key

pub begin_with-requires-clause-value : goal.begin_with-requires-clause-value
begin_with-requires-clause-value c = (first_of _ _ _ _ _ _ _ c.requires).value
