use Rattle.std.proofs.Common.{[], ◌∷◌, refl}
use Rattle.pn_writer.proofs.GivingLemmas.{entry, first_kids_fit, label_fits, front_fits, rest_fits, label_added}
use Rattle.pn_writer.proofs.labels.add_sort_label.Goals as goal

pub begin_label-requires-clause-room : goal.begin_label-requires-clause-room
begin_label-requires-clause-room c = (entry _ _ _ _ _ c.requires).room

pub begin_label-requires-clause-name : goal.begin_label-requires-clause-name
begin_label-requires-clause-name c = (entry _ _ _ _ _ c.requires).name

pub begin_label-requires-clause-text : goal.begin_label-requires-clause-text
begin_label-requires-clause-text c = first_kids_fit _ _ _ _ _ _ _ _ c.requires refl

pub add_sort_in-requires : goal.add_sort_in-requires
add_sort_in-requires c = front_fits (_ ∷ []) _ _ (label_fits _ _ _ _ _ _ _ c.requires c.in_ok-begin_label.ensures)

pub add_opaque-requires : goal.add_opaque-requires
add_opaque-requires c = rest_fits (_ ∷ []) _ _ _ (label_fits _ _ _ _ _ _ _ c.requires c.in_ok-begin_label.ensures) c.in_ok-add_sort_in.ensures

pub returns : goal.returns
returns c = label_added _ _ _ _ _ _ _ _ _ c.requires.is_open c.in_ok-begin_label.ensures c.in_ok-add_sort_in.ensures c.in_ok-add_opaque.ensures c.end.ensures
