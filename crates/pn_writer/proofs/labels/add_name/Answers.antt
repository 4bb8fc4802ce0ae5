use Rattle.pn_writer.proofs.GivingLemmas.{entry, first_kids_fit, other_kids_fit}
use Rattle.pn_writer.proofs.labels.add_name.Goals as goal

pub begin-requires-clause-depth : goal.begin-requires-clause-depth
begin-requires-clause-depth c = (entry _ _ _ _ _ c.requires).room.room

pub add_optional_text-requires : goal.add_optional_text-requires
add_optional_text-requires c = first_kids_fit _ _ _ _ _ _ _ _ c.requires c.in_ok-begin.ensures

pub add_opaque-requires : goal.add_opaque-requires
add_opaque-requires c = other_kids_fit _ _ _ _ _ _ _ _ _ c.requires c.in_ok-begin.ensures c.in_ok-add_optional_text.ensures
