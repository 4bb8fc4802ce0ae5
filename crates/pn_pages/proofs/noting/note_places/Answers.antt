use Rattle.std.proofs.Common.{◌+◌, [], ◌∷◌, map, take, refl, sym, ap}
use Rattle.pn_net.specs.Ids.{place_holder}
use Rattle.pn_pages.proofs.NotingLemmas.{adds_alike, adds_then, map_grows, stands_at, whole}
use Rattle.pn_pages.proofs.noting.note_places.Goals as goal

pub loop-i-preserved : goal.loop-i-preserved
loop-i-preserved c o same =
    let x = c.index-places-i.result in
    let xs = c.args.places.now in
    let i = c.loop-i.i in
    adds_then o (map place_holder (take i xs)) (place_holder x ∷ []) (map place_holder (take (i + 1) xs)) (map_grows place_holder xs i x c.loop-i-test.true c.index-places-i.is) (c.loop-i.invariant o same)
    (λ hs named. c.in_ok-note.ensures o hs (place_holder x) (sym c.as_str.ensures) refl (x, stands_at xs o.places i x same c.loop-i-test.true c.index-places-i.is, refl, refl) named)

pub returns : goal.returns
returns c o same =
    let xs = c.args.places.now in
    adds_alike o (map place_holder (take c.loop-i.i xs)) (map place_holder xs) (ap (map place_holder) (whole xs c.loop-i.i c.loop-i-test.false)) (c.loop-i.invariant o same)
