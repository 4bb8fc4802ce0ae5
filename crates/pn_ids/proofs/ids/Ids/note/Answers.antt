use Rattle.std.proofs.Common.{◌≡◌, Bool, [], ◌∷◌, ◌++◌, is_none, IfOk, ap, ◌∙◌, subst}
use Rattle.pn_ids.specs.Names.{named_in}
use Rattle.pn_ids.proofs.NotingLemmas.{named_of_entries, if_ok_both, notes_one}
use Rattle.pn_ids.proofs.ids.Ids.note.Goals as goal

pub returns-clause-fresh : goal.returns-clause-fresh
returns-clause-fresh g c =
    let same = named_of_entries c.self.inside.index.entries c.args.id.now ∙ ap (λ names. named_in names c.args.id.now) c.self.view_is in
    subst (λ r. IfOk c.put_new.result (λ (b : Bool). b ≡ is_none r)) same c.put_new.ensures.fresh

pub returns-clause-notes : goal.returns-clause-notes
returns-clause-notes g c =
    let same = named_of_entries c.self.inside.index.entries c.args.id.now ∙ ap (λ names. named_in names c.args.id.now) c.self.view_is in
    let fresh = subst (λ r. IfOk c.put_new.result (λ (b : Bool). b ≡ is_none r)) same c.put_new.ensures.fresh in
    if_ok_both c.put_new.result _ _ _ (λ b f p. notes_one c.args.self.now _ (c.args.id.now, c.args.named) b f (λ is. p is ∙ ap (λ names. names ++ (c.args.id.now, c.args.named) ∷ []) c.self.view_is)) fresh c.put_new.ensures.put
