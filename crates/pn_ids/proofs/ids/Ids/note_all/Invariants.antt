use Rattle.std.proofs.Common.{true, map, take}
use Rattle.pn_ids.specs.Names.{NotesAll}
use Rattle.pn_ids.proofs.ids.Ids.note_all.Given as goal

abbrev pub invariant-loop-item : goal.invariant-loop-item
invariant-loop-item g l = NotesAll l.initial.self l.self (map (λ x. (g.T.HasId.id_of x, l.fn.named)) (take l.item-index l.items)) true
