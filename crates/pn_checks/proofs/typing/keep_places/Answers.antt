use Rattle.std.proofs.Common.{length, ◌≡◌, ◌+◌, ◌<◌, ◌≤◌, ℕ, None, Some, ◌∙◌, arith, refl, take, subst, sym}
use Rattle.std.specs.List.{slice_get}
use Rattle.pn_bag.specs.Counts.{count_of}
use Rattle.pn_facts.proofs.Contained.{contains_at}
use Rattle.pn_facts.proofs.Lists.{take_got}
use Rattle.pn_net.specs.Labels.{IsPlaceSort}
use Rattle.pn_net.specs.Orders.{token_cmp}
use Rattle.pn_checks.specs.Initial.{IsMarked, token}
use Rattle.pn_checks.specs.LabelFaults.{PlaceLabels}
use Rattle.pn_checks.specs.NoValue.{SaysMultiset}
use Rattle.pn_checks.proofs.EndLemmas.{zip_length, zip_pair}
use Rattle.pn_checks.proofs.MarkLemmas.{next_marked}
use Rattle.pn_checks.proofs.SortLemmas.{got_there, of_all, of_more, of_none}
use Rattle.pn_checks.proofs.ValueLemmas.{none_before}
use Rattle.pn_checks.proofs.typing.keep_places.Goals as goal

pub bounds-sorts-i : goal.bounds-sorts-i
bounds-sorts-i c = subst (λ k. c.loop-i.i < k) (zip_length (IsPlaceSort c.args.decls.now) c.args.places.now c.args.sorts.now c.requires.sorts) c.loop-i-test.true

pub keep_place-requires-clause-sound : goal.keep_place-requires-clause-sound
keep_place-requires-clause-sound c =
    let p = c.index-places-i.result in
    c.requires.sound p (contains_at c.args.places.now c.loop-i.i p (got_there c.args.places.now c.loop-i.i p c.loop-i-test.true c.index-places-i.is))

pub keep_place-requires-clause-sort : goal.keep_place-requires-clause-sort
keep_place-requires-clause-sort c =
    let places = c.args.places.now in
    let sorts = c.args.sorts.now in
    let i = c.loop-i.i in
    let p = c.index-places-i.result in
    let s = c.index-sorts-i.result in
    let R = IsPlaceSort c.args.decls.now in
    let small : i < length sorts = subst (λ k. i < k) (zip_length R places sorts c.requires.sorts) c.loop-i-test.true in
    zip_pair R places sorts c.requires.sorts i p s (got_there places i p c.loop-i-test.true c.index-places-i.is) (got_there sorts i s small c.index-sorts-i.is)

pub keep_place-requires-clause-counted : goal.keep_place-requires-clause-counted
keep_place-requires-clause-counted c =
    let p = c.index-places-i.result in
    c.requires.counted p (contains_at c.args.places.now c.loop-i.i p (got_there c.args.places.now c.loop-i.i p c.loop-i-test.true c.index-places-i.is))

pub loop-i-init : goal.loop-i-init
loop-i-init c = (
  of_none (PlaceLabels c.args.decls.now) c.args.least.now,
  (λ j small v. subst (λ m. count_of token_cmp m (token j v) ≡ 0) (sym c.requires.unmarked) refl),
  (λ none j. subst (λ m. IsMarked (SaysMultiset c.args.decls.now) m j None) (sym c.requires.unmarked) (λ v. refl)),
)

pub loop-i-preserved : goal.loop-i-preserved
loop-i-preserved c =
    let items = c.args.decls.now in
    let all = c.args.places.now in
    let i = c.loop-i.i in
    let p = c.index-places-i.result in
    let got = got_there all i p c.loop-i-test.true c.index-places-i.is in
    let keeps = c.in_ok-keep_place.ensures.least in
    let others = c.in_ok-keep_place.ensures.others in (
      of_more (PlaceLabels items) (take i all) (take (i + 1) all) p (take_got all i p got) c.args.least.now c.loop-i.least c.keep_place.new.least c.loop-i.invariant.0 keeps,
      (λ j small v. others j v (λ same. omega (arith, small, same)) ∙ c.loop-i.invariant.1 j (omega (arith, small)) v),
      (λ none.
          let found = c.in_ok-keep_place.ensures.gets none in
          next_marked (SaysMultiset items) c.loop-i.marking c.keep_place.new.marking all i p found.0 got found.1 (c.loop-i.invariant.2 (none_before (PlaceLabels items p) c.loop-i.least c.keep_place.new.least keeps none)) found.2 others),
    )
