use Rattle.std.proofs.Common.{drop}
use Rattle.pn_ids.proofs.NotingLemmas.{NotesPart}
use Rattle.pn_names.specs.Names.{constant_ids, numbered}
use Rattle.pn_names.proofs.names.note_constants.Given as goal

abbrev pub invariant-loop-number : goal.invariant-loop-number
invariant-loop-number l = NotesPart l.initial.ids l.ids (numbered l.place l.number (drop l.number (constant_ids l.item))) (numbered l.place 0 (constant_ids l.item))
