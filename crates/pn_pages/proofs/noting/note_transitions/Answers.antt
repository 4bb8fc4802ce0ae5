use Rattle.std.proofs.Common.{◌+◌, [], ◌∷◌, map, take, refl, sym, ap}
use Rattle.pn_net.specs.Ids.{transition_holder}
use Rattle.pn_pages.proofs.NotingLemmas.{adds_alike, adds_then, map_grows, stands_at, whole}
use Rattle.pn_pages.proofs.noting.note_transitions.Goals as goal

pub loop-i-preserved : goal.loop-i-preserved
loop-i-preserved c o same =
    let x = c.index-transitions-i.result in
    let xs = c.args.transitions.now in
    let i = c.loop-i.i in
    adds_then o (map transition_holder (take i xs)) (transition_holder x ∷ []) (map transition_holder (take (i + 1) xs)) (map_grows transition_holder xs i x c.loop-i-test.true c.index-transitions-i.is) (c.loop-i.invariant o same)
    (λ hs named. c.in_ok-note.ensures o hs (transition_holder x) (sym c.as_str.ensures) refl (x, stands_at xs o.transitions i x same c.loop-i-test.true c.index-transitions-i.is, refl, refl) named)

pub returns : goal.returns
returns c o same =
    let xs = c.args.transitions.now in
    adds_alike o (map transition_holder (take c.loop-i.i xs)) (map transition_holder xs) (ap (map transition_holder) (whole xs c.loop-i.i c.loop-i-test.false)) (c.loop-i.invariant o same)
