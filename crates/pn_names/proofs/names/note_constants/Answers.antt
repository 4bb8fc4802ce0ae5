use Rattle.std.proofs.Common.{◌≡◌, ℕ, List, true, [], ◌∷◌, ◌++◌, ◌+◌, suc, ap, ◌∙◌, sym, subst, drop, append_assoc, arith}
use Rattle.std.proofs.lemmas.Option.{slice_get_within, get_or_from_slice_get}
use Rattle.pn_facts.proofs.Lists.{drop_next}
use Rattle.pn_ids.specs.Names.{AreDistinct, NotesAll}
use Rattle.pn_ids.proofs.NotingLemmas.{Names, NotesPart, part_clash}
use Rattle.pn_names.specs.declared.Declared.{Declared}
use Rattle.pn_names.specs.declared.Declared.TheVariants as declared
use Rattle.pn_names.specs.Names.{constant_ids, numbered}
use Rattle.pn_names.proofs.names.note_constants.Goals as goal

part_more : (old new newer : Names Declared) (n : List ℕ × Declared) (rest left all : Names Declared) → left ≡ n ∷ rest → NotesPart old new left all → NotesAll new newer (n ∷ []) true → NotesPart old newer rest all
part_more old new newer n rest left all split part notes = record {
  whole = ap (λ l. l ++ rest) notes.0 ∙ append_assoc new (n ∷ []) rest ∙ ap (λ l. new ++ l) (sym split) ∙ part.whole;
  distinct = λ distinct. subst AreDistinct (sym notes.0) (notes.1 (part.distinct distinct));
}

pub returns-then-not-branch : goal.returns-then-not-branch
returns-then-not-branch c =
    let ids = constant_ids c.args.item.now in
    let id = c.id_within.result.now in
    let i = c.loop-number.number in
    let rest = drop (i + 1) ids in
    let next : drop i ids ≡ id ∷ rest = drop_next ids i id (slice_get_within ids i id c.id_within.ensures) (sym (get_or_from_slice_get ids i id id c.id_within.ensures)) in
    let name : Declared = declared.Constant (record { declaration = c.args.place; index = i }) in
    part_clash c.args.ids.now c.loop-number.ids c.note.new.self ((id, name) ∷ []) (numbered c.args.place (suc i) rest) (numbered c.args.place i (drop i ids)) (numbered c.args.place 0 ids)
    (ap (numbered c.args.place i) next) c.loop-number.invariant (subst (NotesAll c.loop-number.ids c.note.new.self ((id, name) ∷ [])) c.if-not-branch.true c.in_ok-note.ensures.notes)

pub loop-number-preserved : goal.loop-number-preserved
loop-number-preserved c =
    let ids = constant_ids c.args.item.now in
    let id = c.id_within.result.now in
    let i = c.loop-number.number in
    let rest = drop (i + 1) ids in
    let next : drop i ids ≡ id ∷ rest = drop_next ids i id (slice_get_within ids i id c.id_within.ensures) (sym (get_or_from_slice_get ids i id id c.id_within.ensures)) in
    let name : Declared = declared.Constant (record { declaration = c.args.place; index = i }) in
    let one : suc i ≡ i + 1 = omega arith in
    part_more c.args.ids.now c.loop-number.ids c.note.new.self (id, name) (numbered c.args.place (i + 1) rest) (numbered c.args.place i (drop i ids)) (numbered c.args.place 0 ids)
    (ap (numbered c.args.place i) next ∙ ap (λ k. (id, name) ∷ numbered c.args.place k rest) one) c.loop-number.invariant
    (subst (NotesAll c.loop-number.ids c.note.new.self ((id, name) ∷ [])) c.if-not-branch.false c.in_ok-note.ensures.notes)
