use Rattle.std.proofs.Common.{ℕ, List, [], ◌∷◌, true, false, ap, ◌∙◌, subst}
use Rattle.pn_ids.specs.Names.{NotesAll}
use Rattle.pn_ids.proofs.NotingLemmas.{noted_next, noted_clash}
use Rattle.pn_ids.proofs.ids.Ids.note_all.Goals as goal

pub returns-then-not-branch : goal.returns-then-not-branch
returns-then-not-branch g c =
    let id_is = c.id.ensures ∙ ap g.T.HasId.id_of c.item-item.is in
    noted_clash (λ x. (g.T.HasId.id_of x, c.args.named)) c.args.items.now c.loop-item.item-index c.item-item.result c.loop-item-test.true c.args.self.now c.loop-item.self c.note.new.self c.loop-item.invariant
    (subst (λ (v : List ℕ). NotesAll c.loop-item.self c.note.new.self ((v, c.args.named) ∷ []) false) id_is (subst (NotesAll c.loop-item.self c.note.new.self ((c.id.result.now, c.args.named) ∷ [])) c.if-not-branch.true c.in_ok-note.ensures.notes))

pub loop-item-preserved : goal.loop-item-preserved
loop-item-preserved g c =
    let id_is = c.id.ensures ∙ ap g.T.HasId.id_of c.item-item.is in
    noted_next (λ x. (g.T.HasId.id_of x, c.args.named)) c.args.items.now c.loop-item.item-index c.item-item.result c.loop-item-test.true c.args.self.now c.loop-item.self c.note.new.self c.loop-item.invariant
    (subst (λ (v : List ℕ). NotesAll c.loop-item.self c.note.new.self ((v, c.args.named) ∷ []) true) id_is (subst (NotesAll c.loop-item.self c.note.new.self ((c.id.result.now, c.args.named) ∷ [])) c.if-not-branch.false c.in_ok-note.ensures.notes))
