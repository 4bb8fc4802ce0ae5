use Rattle.std.proofs.Common.{◌≡◌, ◌≤◌, drop}
use Rattle.pn_names.specs.Names.{names_from, names_of}
use Rattle.pn_ids.proofs.NotingLemmas.{NotesPart}
use Rattle.pn_names.proofs.names.note_items.Given as goal

abbrev pub invariant-loop-item : goal.invariant-loop-item
invariant-loop-item l = (l.place ≡ l.item-index) × (l.before ≤ l.item-index)
    × NotesPart l.initial.ids l.ids (names_from l.place l.before (drop l.item-index l.items)) (names_of l.items)
