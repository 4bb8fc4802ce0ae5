use Rattle.std.proofs.Common.{[], ◌∷◌, append-nil, map, ap, sym, ◌∙◌}
use Rattle.pn_names.specs.Names.{constants_of}
use Rattle.pn_net.specs.Ids.{constant_holder, declaration_holders, element_holder, holder, other}
use Rattle.pn_net.proofs.RowLemmas.{on_ok_then}
use Rattle.pn_pages.proofs.NotingLemmas.{adds_alike, adds_then}
use Rattle.pn_pages.proofs.noting.note_declaration.Goals as goal

pub returns-in_ok-note_other-in-Named : goal.returns-in_ok-note_other-in-Named
returns-in_ok-note_other-in-Named c =
    let inner = map constant_holder (constants_of c.in-Named.body) in
    let at = c.in-Named.at in
    on_ok_then c.note_body.result _ _ (λ adds o.
    adds_then o (holder c.as_str.result.now at other ∷ []) inner (declaration_holders c.args.declaration.now)
    (ap (λ id. holder id at other ∷ inner) c.as_str.ensures ∙ ap (λ hs. holder c.in-Named.id at other ∷ hs) (sym (append-nil inner)) ∙ sym (ap declaration_holders c.in-Named.is))
    (c.in_ok-note_other-in-Named.ensures o) (adds o))
    c.note_body.ensures

pub returns-in-Variable : goal.returns-in-Variable
returns-in-Variable c =
    let at = c.in-Variable.at in
    on_ok_then c.note_other-in-Variable.result _ _ (λ adds o.
    adds_alike o (holder c.as_str-in-Variable.result.now at other ∷ []) (declaration_holders c.args.declaration.now)
    (ap (λ id. holder id at other ∷ []) c.as_str-in-Variable.ensures ∙ sym (ap declaration_holders c.in-Variable.is)) (adds o))
    c.note_other-in-Variable.ensures

pub returns-in_ok-note_other-in-Partition : goal.returns-in_ok-note_other-in-Partition
returns-in_ok-note_other-in-Partition c =
    let inner = map element_holder c.as_slice.result.now in
    let at = c.in-Partition.at in
    on_ok_then c.note_others.result _ _ (λ adds o.
    adds_then o (holder c.as_str-in-Partition.result.now at other ∷ []) inner (declaration_holders c.args.declaration.now)
    (ap (λ id. holder id at other ∷ inner) c.as_str-in-Partition.ensures ∙ ap (λ es. holder c.in-Partition.id at other ∷ map element_holder es) c.as_slice.ensures ∙ sym (ap declaration_holders c.in-Partition.is))
    (c.in_ok-note_other-in-Partition.ensures o) (adds o))
    c.note_others.ensures
