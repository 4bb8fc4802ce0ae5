use Rattle.std.proofs.Common.{sym, subst}
use Rattle.std.specs.List.{Contains}
use Rattle.std.proofs.lemmas.List.Elements.{Contains-get_or}
use Rattle.pn_pages.proofs.single_page.named_arcs.Goals as goal

pub named_arc-requires : goal.named_arc-requires
named_arc-requires c =
    let item = c.arc-item.result in
    let xs = c.as_slice-arc-items.result.now in
    c.requires item (subst (λ ys. Contains ys item) c.as_slice-arc-items.ensures (subst (Contains xs) (sym c.arc-item.is) (Contains-get_or xs c.loop-arc.arc-index item c.loop-arc-test.true)))
