use Rattle.pn_writer.proofs.GivingLemmas.{entry, inside}
use Rattle.pn_writer.proofs.sorts.add_sort_in.Goals as goal

pub begin-requires-clause-name : goal.begin-requires-clause-name
begin-requires-clause-name c = (entry _ _ _ _ _ c.requires).name

pub begin-requires-clause-depth : goal.begin-requires-clause-depth
begin-requires-clause-depth c = (entry _ _ _ _ _ c.requires).room.room

pub add_sort-requires : goal.add_sort-requires
add_sort-requires c = inside _ _ _ _ _ _ _ c.requires c.in_ok-begin.ensures
