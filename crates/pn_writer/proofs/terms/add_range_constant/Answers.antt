use Rattle.pn_writer.proofs.GivingLemmas.{entry, first_of, inside}
use Rattle.pn_writer.proofs.terms.add_range_constant.Goals as goal

pub begin_number-requires-clause-room : goal.begin_number-requires-clause-room
begin_number-requires-clause-room c = (entry _ _ _ _ _ c.requires).room

pub begin_number-requires-clause-value : goal.begin_number-requires-clause-value
begin_number-requires-clause-value c = (first_of _ _ _ _ _ _ _ c.requires).value

pub add_range-requires : goal.add_range-requires
add_range-requires c = inside _ _ _ _ _ _ _ c.requires c.in_ok-begin_number.ensures
