use Rattle.std.proofs.Common.{◌+◌, take}
use Rattle.pn_facts.proofs.Lists.{take_got}
use Rattle.pn_checks.specs.Sorts.{PlaceStands}
use Rattle.pn_checks.proofs.SortLemmas.{got_there, known_later, of_all, of_more, of_none}
use Rattle.pn_checks.proofs.net_sorts.keep_places.Goals as goal

pub loop-place-init : goal.loop-place-init
loop-place-init c = (of_none (PlaceStands c.args.decls.now) c.args.least.now, c.requires)

pub loop-place-preserved : goal.loop-place-preserved
loop-place-preserved c =
    let items = c.args.decls.now in
    let all = c.args.places.now in
    let i = c.loop-place.place-index in
    let next = take_got all i c.place-item.result (got_there all i c.place-item.result c.loop-place-test.true c.place-item.is) in (
      of_more (PlaceStands items) (take i all) (take (i + 1) all) c.place-item.result next c.args.least.now c.loop-place.least c.keep_place.new.least c.loop-place.invariant.0 c.in_ok-keep_place.ensures,
      known_later items (PlaceStands items c.place-item.result) c.loop-place.least c.keep_place.new.least c.loop-place.invariant.1 c.in_ok-keep_place.ensures,
    )

pub returns : goal.returns
returns c = of_all (PlaceStands c.args.decls.now) c.args.places.now c.loop-place.place-index c.loop-place-test.false c.args.least.now c.loop-place.least c.loop-place.invariant.0
