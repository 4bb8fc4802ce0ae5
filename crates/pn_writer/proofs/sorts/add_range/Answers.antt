use Rattle.pn_writer.proofs.GivingLemmas.{entry, first_of, second_of}
use Rattle.pn_writer.proofs.sorts.add_range.Goals as goal

pub begin_number-requires-clause-room : goal.begin_number-requires-clause-room
begin_number-requires-clause-room c = (entry _ _ _ _ _ c.requires).room

pub begin_number-requires-clause-value : goal.begin_number-requires-clause-value
begin_number-requires-clause-value c = (first_of _ _ _ _ _ _ _ c.requires).value

pub add_number_attr-requires-clause-value : goal.add_number_attr-requires-clause-value
add_number_attr-requires-clause-value c = (second_of _ _ _ _ _ _ _ _ c.requires).value
