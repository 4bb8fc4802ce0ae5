use Rattle.std.proofs.Common.{◌≡◌, ◌∙◌, ◌<◌, ap, subst, sym, length, None}
use Rattle.std.specs.List.{slice_get}
use Rattle.std.specs.Option.{option_map}
use Rattle.pn_net.specs.Labels.{IsPlaceSort}
use Rattle.pn_net.specs.declared.flat.Flat.{Flat}
use Rattle.pn_marked.specs.Gathering.{IsPlaceWith}
use Rattle.pn_marked.specs.Marked.{label_of, sum_term}
use Rattle.pn_marked.proofs.MarkedLemmas.{made_next, there_is}
use Rattle.pn_marked.proofs.marked.places_with.Goals as goal

pub loop-i-preserved : goal.loop-i-preserved
loop-i-preserved c =
    let whole : c.as_slice-places.result.now ≡ c.args.net.now.places = c.as_slice-places.ensures ∙ ap (λ (f : Flat). f.places) c.flat.ensures.flat in
    let has = c.in_ok-has_sort.ensures in
    let same = there_is c.as_slice-places.result.now c.loop-i.i c.index-places-i.result has.1.0 c.loop-i-test.true c.index-places-i.is (ap (λ l. slice_get l c.loop-i.i) whole ∙ has.1.1) in
    let below : c.loop-i.i < length c.args.terms.now = subst (λ n. c.loop-i.i < n) (sym (c.requires ∙ ap length (sym whole))) c.loop-i-test.true in
    made_next (IsPlaceWith c.args.net.now.declarations c.args.terms.now) c.as_slice-places.result.now c.loop-i.all c.push.new.self c.loop-i.i c.index-places-i.result c.in_ok-coloured_place.field-0 c.loop-i.invariant c.loop-i-test.true c.index-places-i.is c.in_ok-push.ensures.ok (
      has.0,
      subst (λ p. IsPlaceSort c.args.net.now.declarations p has.0) (sym same) has.1.2,
      λ es is. c.in_ok-coloured_place.ensures
          ∙ ap (λ l. record c.index-places-i.result { marking = None; hl_marking = option_map label_of (sum_term l) }) (there_is c.args.terms.now c.loop-i.i c.index-terms-i.result es below c.index-terms-i.is is),
    )
