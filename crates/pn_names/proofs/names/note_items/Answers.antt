use Rattle.std.proofs.Common.{◌∷◌, ◌+◌, suc, ap, ◌∙◌, sym, subst, drop}
use Rattle.std.proofs.lemmas.List.{drop_more}
use Rattle.pn_ids.specs.Names.{NotesAll}
use Rattle.pn_names.specs.Names.{names_in, names_from, names_of, with_variable}
use Rattle.pn_ids.proofs.NotingLemmas.{part_clash}
use Rattle.pn_names.proofs.names.note_items.Goals as goal

pub returns-then-not-branch : goal.returns-then-not-branch
returns-then-not-branch c =
    let i = c.loop-item.item-index in
    let rest = drop (i + 1) c.args.items.now in
    let next = drop_more c.args.items.now i c.item-item.result c.loop-item-test.true ∙ ap (λ d. d ∷ rest) (sym c.item-item.is) in
    part_clash c.args.ids.now c.loop-item.ids c.note_item.new.ids (names_in c.loop-item.place c.loop-item.before c.item-item.result)
    (names_from (suc c.loop-item.place) (with_variable c.loop-item.before c.item-item.result) rest) (names_from c.loop-item.place c.loop-item.before (drop i c.args.items.now)) (names_of c.args.items.now)
    (ap (names_from c.loop-item.place c.loop-item.before) next) c.loop-item.invariant.2
    (subst (NotesAll c.loop-item.ids c.note_item.new.ids (names_in c.loop-item.place c.loop-item.before c.item-item.result)) c.if-not-branch.true c.in_ok-note_item.ensures)
