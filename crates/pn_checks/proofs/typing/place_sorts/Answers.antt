use Rattle.std.proofs.Common.{sym, add-one}
use Rattle.std.proofs.Math.Seq.{take-suc}
use Rattle.pn_net.proofs.RowLemmas.{zip_push}
use Rattle.pn_checks.proofs.typing.place_sorts.Goals as goal

pub loop-place-preserved : goal.loop-place-preserved
loop-place-preserved c = rw (add-one, take-suc c.args.places.now c.loop-place.place-index c.place-item.result c.loop-place-test.true, c.in_ok-push.ensures.ok, sym c.place-item.is)
    (zip_push _ _ c.loop-place.sorts c.place-item.result c.in_ok-place_sort.field-0 c.loop-place.invariant c.in_ok-place_sort.ensures)
