use Rattle.std.proofs.Common.{◌++◌, map, refl, sym, ap, ◌∙◌}
use Rattle.pn_net.specs.Ids.{place_holder, transition_holder}
use Rattle.pn_net.proofs.RowLemmas.{on_ok_then}
use Rattle.pn_pages.specs.Naming.{holders_from}
use Rattle.pn_pages.proofs.NotingLemmas.{adds_then}
use Rattle.pn_pages.proofs.noting.note_nodes.Goals as goal

pub returns : goal.returns
returns c =
    let o = c.args.objects.now in
    let ps = c.as_slice.result.now in
    let ts = c.as_slice-2.result.now in
    let rs = c.as_slice-3.result.now in
    on_ok_then c.note_references.result _ _ (λ adds.
    adds_then o (map place_holder ps) (map transition_holder ts ++ holders_from o 0 rs) (map place_holder o.places ++ (map transition_holder o.transitions ++ holders_from o 0 o.references))
    (ap (λ xs. map place_holder xs ++ (map transition_holder ts ++ holders_from o 0 rs)) c.as_slice.ensures
    ∙ ap (λ xs. map place_holder o.places ++ (map transition_holder xs ++ holders_from o 0 rs)) c.as_slice-2.ensures
    ∙ ap (λ xs. map place_holder o.places ++ (map transition_holder o.transitions ++ holders_from o 0 xs)) c.as_slice-3.ensures)
    (c.in_ok-note_places.ensures o (sym c.as_slice.ensures))
    (adds_then o (map transition_holder ts) (holders_from o 0 rs) (map transition_holder ts ++ holders_from o 0 rs) refl (c.in_ok-note_transitions.ensures o (sym c.as_slice-2.ensures)) (adds o (sym c.as_slice-3.ensures))))
    c.note_references.ensures
