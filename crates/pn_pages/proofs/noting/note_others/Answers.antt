use Rattle.std.proofs.Common.{◌+◌, [], ◌∷◌, ◌++◌, map, take, ap, ◌∙◌}
use Rattle.pn_net.specs.Ids.{IdHolder, holder, other}
use Rattle.pn_pages.proofs.NotingLemmas.{adds_alike, adds_then, map_grows, whole}
use Rattle.pn_pages.proofs.noting.note_others.Goals as goal

pub loop-item-preserved : goal.loop-item-preserved
loop-item-preserved g c o =
    let x = c.item-item.result in
    let xs = c.args.items.now in
    let i = c.loop-item.item-index in
    let f : g.row.T.Denot → IdHolder = λ y. holder (g.T.Held.id_of y) (g.T.Held.offset_of y) other in
    adds_then o (map f (take i xs)) (holder c.id.result.now c.offset.result other ∷ []) (map f (take (i + 1) xs))
    (ap (λ id. map f (take i xs) ++ holder id c.offset.result other ∷ []) c.id.ensures ∙ ap (λ n. map f (take i xs) ++ holder (g.T.Held.id_of x) n other ∷ []) c.offset.ensures ∙ map_grows f xs i x c.loop-item-test.true c.item-item.is)
    (c.loop-item.invariant o) (c.in_ok-note_other.ensures o)

pub returns : goal.returns
returns g c o =
    let xs = c.args.items.now in
    let i = c.loop-item.item-index in
    let f : g.row.T.Denot → IdHolder = λ y. holder (g.T.Held.id_of y) (g.T.Held.offset_of y) other in
    adds_alike o (map f (take i xs)) (map f xs) (ap (map f) (whole xs i c.loop-item-test.false)) (c.loop-item.invariant o)
