use Rattle.std.proofs.Common.{refl, ap, slice_index_or}
use Rattle.std.proofs.lemmas.Option.{slice_get-get_or}
use Rattle.pn_tree.specs.Views.{element_of}
use Rattle.pn_shape.specs.Faults.{missing_faults, missing_fault, no_slot}
use Rattle.pn_shape_faults.proofs.KeepLemmas.{keeps_told}
use Rattle.pn_shape_faults.proofs.WalkLemmas.{missing_next}
use Rattle.pn_shape_faults.proofs.kids.ask_missing.Goals as goal

pub loop-i-preserved : goal.loop-i-preserved
loop-i-preserved c =
    let e = element_of c.args.view in
    let slots = c.args.slots.now in
    missing_next c.args.least.now c.loop-i.least c.keep_missing.new.least (missing_faults c.args.kind slots e 0 slots) c.args.kind slots e c.loop-i.i (slice_index_or slots c.loop-i.i no_slot) (slice_get-get_or slots c.loop-i.i no_slot c.loop-i-test.true) c.loop-i.invariant
    (keeps_told c.loop-i.least c.keep_missing.new.least _ e.at _ _ _ _ refl refl (ap (missing_fault c.args.kind (slice_index_or slots c.loop-i.i no_slot)) (c.requires.counted c.loop-i.i)) c.in_ok-keep_missing.ensures)
