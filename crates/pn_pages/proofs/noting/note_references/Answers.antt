use Rattle.std.proofs.Common.{◌+◌, [], ◌∷◌, take, refl, sym, ap}
use Rattle.pn_pages.specs.Naming.{holders_from, reference_holder}
use Rattle.pn_pages.proofs.NotingLemmas.{adds_alike, adds_then, holders_grow, stands_at, whole}
use Rattle.pn_pages.proofs.noting.note_references.Goals as goal

pub loop-i-preserved : goal.loop-i-preserved
loop-i-preserved c o same =
    let x = c.index-references-i.result in
    let xs = c.args.references.now in
    let i = c.loop-i.i in
    adds_then o (holders_from o 0 (take i xs)) (reference_holder o i x ∷ []) (holders_from o 0 (take (i + 1) xs)) (holders_grow o xs i x c.loop-i-test.true c.index-references-i.is) (c.loop-i.invariant o same)
    (λ hs named. c.in_ok-note.ensures o hs (reference_holder o i x) (sym c.as_str.ensures) refl (x, stands_at xs o.references i x same c.loop-i-test.true c.index-references-i.is, refl, refl) named)

pub returns : goal.returns
returns c o same =
    let xs = c.args.references.now in
    adds_alike o (holders_from o 0 (take c.loop-i.i xs)) (holders_from o 0 xs) (ap (holders_from o 0) (whole xs c.loop-i.i c.loop-i-test.false)) (c.loop-i.invariant o same)
