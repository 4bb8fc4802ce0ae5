use Rattle.std.proofs.Common.{[], ◌∷◌, ◌++◌, map, refl, ap, ◌∙◌}
use Rattle.std.specs.List.{flat_map}
use Rattle.pn_net.specs.Ids.{arc_holder, declaration_holders, holder, other, place_holder, transition_holder}
use Rattle.pn_net.proofs.RowLemmas.{on_ok_then}
use Rattle.pn_pages.specs.Gathering.{title_holder}
use Rattle.pn_pages.specs.Naming.{all_holders, holders_from}
use Rattle.pn_pages.proofs.NotingLemmas.{adds_then}
use Rattle.pn_pages.proofs.noting.note_all.Goals as goal

pub returns : goal.returns
returns c =
    let o = c.args.objects.now in
    let own = holder c.args.id.now c.args.at other ∷ [] in
    let ts = c.as_slice.result.now in
    let ds = c.as_slice-2.result.now in
    let xs = c.as_slice-3.result.now in
    let nodes = map place_holder o.places ++ (map transition_holder o.transitions ++ holders_from o 0 o.references) in
    on_ok_then c.note_others-2.result _ _ (λ adds.
    adds_then o own (map title_holder ts ++ (flat_map declaration_holders ds ++ (nodes ++ map arc_holder xs))) (all_holders c.args.id.now c.args.at o)
    (ap (λ ys. own ++ (map title_holder ys ++ (flat_map declaration_holders ds ++ (nodes ++ map arc_holder xs)))) c.as_slice.ensures
    ∙ ap (λ ys. own ++ (map title_holder o.titles ++ (flat_map declaration_holders ys ++ (nodes ++ map arc_holder xs)))) c.as_slice-2.ensures
    ∙ ap (λ ys. own ++ (map title_holder o.titles ++ (flat_map declaration_holders o.declarations ++ (nodes ++ map arc_holder ys)))) c.as_slice-3.ensures)
    (c.in_ok-note_other.ensures o)
    (adds_then o (map title_holder ts) (flat_map declaration_holders ds ++ (nodes ++ map arc_holder xs)) (map title_holder ts ++ (flat_map declaration_holders ds ++ (nodes ++ map arc_holder xs))) refl
    (c.in_ok-note_others.ensures o)
    (adds_then o (flat_map declaration_holders ds) (nodes ++ map arc_holder xs) (flat_map declaration_holders ds ++ (nodes ++ map arc_holder xs)) refl (c.in_ok-note_declarations.ensures o)
    (adds_then o nodes (map arc_holder xs) (nodes ++ map arc_holder xs) refl c.in_ok-note_nodes.ensures (adds o)))))
    c.note_others-2.ensures
