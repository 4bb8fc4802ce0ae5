use Rattle.std.proofs.Common.{◌≡◌, ◌+◌, Some, get_or, take}
use Rattle.std.specs.List.{slice_get}
use Rattle.std.proofs.lemmas.Option.{slice_get-get_or}
use Rattle.pn_facts.proofs.Contained.{contains_at}
use Rattle.pn_facts.proofs.Lists.{take_got}
use Rattle.pn_checks.specs.LabelFaults.{ArcLabels}
use Rattle.pn_net.specs.Labels.{IsPlaceSort}
use Rattle.pn_checks.proofs.EndLemmas.{zip_at}
use Rattle.pn_checks.proofs.SortLemmas.{got_there, of_all, of_more, of_none}
use Rattle.pn_checks.proofs.SortedLemmas.{sorted_more, sorted_nothing}
use Rattle.pn_checks.proofs.ValueLemmas.{none_before}
use Rattle.pn_net.specs.Labels.{said}
use Rattle.pn_checks.proofs.typing.keep_arcs.Goals as goal

pub keep_arc-requires-clause-sound : goal.keep_arc-requires-clause-sound
keep_arc-requires-clause-sound c =
    c.requires.sound c.arc-item.result
    (contains_at c.args.arcs.now c.loop-arc.arc-index c.arc-item.result (got_there c.args.arcs.now c.loop-arc.arc-index c.arc-item.result c.loop-arc-test.true c.arc-item.is))

pub bounds-sorts-arc : goal.bounds-sorts-arc
bounds-sorts-arc c =
    c.requires.wired c.arc-item.result
    (contains_at c.args.arcs.now c.loop-arc.arc-index c.arc-item.result (got_there c.args.arcs.now c.loop-arc.arc-index c.arc-item.result c.loop-arc-test.true c.arc-item.is))

pub loop-arc-init : goal.loop-arc-init
loop-arc-init c places zip = (of_none (ArcLabels c.args.decls.now places) c.args.least.now, λ none. sorted_nothing c.args.decls.now (λ a. said a.arc.inscription))

pub loop-arc-preserved : goal.loop-arc-preserved
loop-arc-preserved c places zip =
    let items = c.args.decls.now in
    let all = c.args.arcs.now in
    let i = c.loop-arc.arc-index in
    let sorts = c.args.sorts.now in
    let got = got_there all i c.arc-item.result c.loop-arc-test.true c.arc-item.is in
    let within = c.requires.wired c.arc-item.result (contains_at all i c.arc-item.result got) in
    let k = c.arc-item.result.place in
    let s = c.index-sorts-arc.result in
    let at : slice_get sorts k ≡ Some s = got_there sorts k s within c.index-sorts-arc.is in
    let found = zip_at (IsPlaceSort items) places sorts zip k s at in
    let next = take_got all i c.arc-item.result got in
    let keeps = c.in_ok-keep_arc.ensures.least places found.0 found.1 found.2 in
    let so_far = c.loop-arc.invariant places zip in (
      of_more (ArcLabels items places) (take i all) (take (i + 1) all) c.arc-item.result next c.args.least.now c.loop-arc.least c.keep_arc.new.least so_far.0 keeps,
      (λ none. sorted_more items (λ a. said a.arc.inscription) (take i all) (take (i + 1) all) c.arc-item.result next
          (so_far.1 (none_before (ArcLabels items places c.arc-item.result) c.loop-arc.least c.keep_arc.new.least keeps none)) (c.in_ok-keep_arc.ensures.sorted none)),
    )

pub returns-clause-least : goal.returns-clause-least
returns-clause-least c places zip = of_all (ArcLabels c.args.decls.now places) c.args.arcs.now c.loop-arc.arc-index c.loop-arc-test.false c.args.least.now c.loop-arc.least (c.loop-arc.invariant places zip).0
