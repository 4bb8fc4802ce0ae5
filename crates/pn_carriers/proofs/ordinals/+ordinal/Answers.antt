use Rattle.std.proofs.Common.{rules, ◌≡◌, ◌+◌, ◌*◌, ◌<◌, ◌^◌, true, map, length, drop, ℤ, FitsSigned, w64, ap, ◌∙◌, sym, subst, arith}
use Rattle.std.specs.List.{slice_get, list_all}
use Rattle.std.proofs.lemmas.Int.{to_z-of_z}
use Rattle.std.proofs.lemmas.List.{length-map}
use Rattle.std.proofs.lemmas.Option.{slice_get_within}
use Rattle.pn_values.specs.declared.sort.Sort.TheViews.{the_lemmas}
use Rattle.pn_values.specs.declared.value.Value.TheVariants as values
use Rattle.pn_values.specs.declared.value.Value.TheViews.{out-Value}
use Rattle.pn_carriers.specs.Carriers.{is_finite, width_of, constants, numbers_between, choices, carrier}
use Rattle.pn_carriers.specs.Members.{is_between, is_member, is_tuple_of}
use Rattle.pn_carriers.proofs.LayerLemmas.{carrier-enumeration, carrier-partition, carrier-range, carrier-product, finite-product, member-enumeration, member-partition, member-range, member-product}
use Rattle.pn_carriers.proofs.CarrierLemmas.{only_at}
use Rattle.pn_carriers.proofs.OrdinalLemmas.{SoFar, place_fits, next_fits, value_there, next, more, all}
use Rattle.pn_carriers.proofs.ordinals.+ordinal.Goals as goal

pub choice_place-bounds-values-i : goal.choice_place-bounds-values-i
choice_place-bounds-values-i t c = value_there _ _ _ _ _ c.loop-i.invariant c.loop-i-test.true

pub choice_place-overflow_cast-count : goal.choice_place-overflow_cast-count
choice_place-overflow_cast-count t c =
    let n = next _ _ _ _ _ c.loop-i.invariant _ _ c.loop-i-test.true c.index-parts-i.is c.index-values-i.is in
    omega (arith, n.size, c.requires.few)

pub choice_place-overflow_mul-place : goal.choice_place-overflow_mul-place
choice_place-overflow_mul-place t c =
    let n = next _ _ _ _ _ c.loop-i.invariant _ _ c.loop-i-test.true c.index-parts-i.is c.index-values-i.is in
    let most : (c.loop-i.place + 1) * length (carrier c.args.widths.now c.index-parts-i.result) < 2 ^ 64 = omega (arith, n.few, c.requires.few) in
    place_fits c.loop-i.place (length (carrier c.args.widths.now c.index-parts-i.result)) c.finite_size-count.result c.finite_size-count.ensures most

pub choice_place-ordinal-requires : goal.choice_place-ordinal-requires
choice_place-ordinal-requires t c =
    let n = next _ _ _ _ _ c.loop-i.invariant _ _ c.loop-i-test.true c.index-parts-i.is c.index-values-i.is in
    let few : length (carrier c.args.widths.now c.index-parts-i.result) < 2 ^ 64 = omega (arith, n.size, c.requires.few) in
    (search (rules, the_lemmas), (n.finite, (few, n.member)))

pub choice_place-overflow_add-place : goal.choice_place-overflow_add-place
choice_place-overflow_add-place t c =
    let n = next _ _ _ _ _ c.loop-i.invariant _ _ c.loop-i-test.true c.index-parts-i.is c.index-values-i.is in
    let most : (c.loop-i.place + 1) * length (carrier c.args.widths.now c.index-parts-i.result) < 2 ^ 64 = omega (arith, n.few, c.requires.few) in
    let below = slice_get_within (carrier c.args.widths.now c.index-parts-i.result) c.ordinal.result c.index-values-i.result c.ordinal.ensures.place in
    next_fits c.loop-i.place (length (carrier c.args.widths.now c.index-parts-i.result)) c.finite_size-count.result c.ordinal.result c.finite_size-count.ensures below most

pub choice_place-loop-i-preserved : goal.choice_place-loop-i-preserved
choice_place-loop-i-preserved t c =
    let n = next _ _ _ _ _ c.loop-i.invariant _ _ c.loop-i-test.true c.index-parts-i.is c.index-values-i.is in
    let count : length (carrier c.args.widths.now c.index-parts-i.result) ≡ c.finite_size-count.result = omega (arith, n.size, c.requires.few, c.finite_size-count.ensures) in
    subst (λ m. SoFar c.args.widths.now c.args.parts.now c.args.values.now (drop (c.loop-i.i + 1) c.args.parts.now) (drop (c.loop-i.i + 1) c.args.values.now) (c.loop-i.place * m + c.ordinal.result)) count
    (more _ _ _ _ _ c.loop-i.invariant _ _ c.ordinal.result c.loop-i-test.true c.index-parts-i.is c.index-values-i.is c.ordinal.ensures.place)

pub choice_place-returns : goal.choice_place-returns
choice_place-returns t c = record { place = all _ _ _ _ _ c.loop-i.invariant (omega arith) }

pub ordinal-tuple_place-requires : goal.ordinal-tuple_place-requires
ordinal-tuple_place-requires t c =
    let parts = c.in-Product.parts in
    let finite : list_all is_finite c.as_slice.result.now ≡ true =
    ap (list_all is_finite) c.as_slice.ensures ∙ sym (finite-product parts) ∙ ap is_finite (sym c.in-Product.is) ∙ c.requires.finite in
    let count : length (carrier c.args.widths.now c.args.sort.now) ≡ length (choices (map (carrier c.args.widths.now) c.as_slice.result.now)) =
    ap (λ s. length (carrier c.args.widths.now s)) c.in-Product.is ∙ ap length (carrier-product c.args.widths.now parts) ∙ length-map (choices (map (carrier c.args.widths.now) parts)) values.Tuple
    ∙ ap (λ ps. length (choices (map (carrier c.args.widths.now) ps))) (sym c.as_slice.ensures) in
    let few : length (choices (map (carrier c.args.widths.now) c.as_slice.result.now)) < 2 ^ 64 = omega (arith, c.requires.few) in
    let member : is_tuple_of (map (is_member c.args.widths.now) c.as_slice.result.now) (out-Value c.args.value.now) ≡ true =
    ap (λ ps. is_tuple_of (map (is_member c.args.widths.now) ps) (out-Value c.args.value.now)) c.as_slice.ensures ∙ sym (member-product c.args.widths.now parts c.args.value.now)
    ∙ ap (λ s. is_member c.args.widths.now s c.args.value.now) (sym c.in-Product.is) ∙ c.requires.member in
    (search (rules, the_lemmas), (finite, (few, member)))

pub ordinal-returns-in-Enumeration-clause-only : goal.ordinal-returns-in-Enumeration-clause-only
ordinal-returns-in-Enumeration-clause-only t c =
    let n = c.in-Enumeration.field-0 in
    let width = width_of c.args.widths.now n in
    let passes = sym (member-enumeration c.args.widths.now n c.args.value.now) ∙ ap (λ s. is_member c.args.widths.now s c.args.value.now) (sym c.in-Enumeration.is) ∙ c.requires.member in
    only_at c.args.widths.now c.args.sort.now (constants width) c.args.value.now c.constant_place.result
    (ap (carrier c.args.widths.now) c.in-Enumeration.is ∙ carrier-enumeration c.args.widths.now n) (c.constant_place.ensures width passes)

pub ordinal-returns-in-Partition-clause-only : goal.ordinal-returns-in-Partition-clause-only
ordinal-returns-in-Partition-clause-only t c =
    let n = c.in-Partition.field-0 in
    let width = width_of c.args.widths.now n in
    let passes = sym (member-partition c.args.widths.now n c.args.value.now) ∙ ap (λ s. is_member c.args.widths.now s c.args.value.now) (sym c.in-Partition.is) ∙ c.requires.member in
    only_at c.args.widths.now c.args.sort.now (constants width) c.args.value.now c.constant_place-in-Partition.result
    (ap (carrier c.args.widths.now) c.in-Partition.is ∙ carrier-partition c.args.widths.now n) (c.constant_place-in-Partition.ensures width passes)

pub ordinal-returns-in-Range-clause-only : goal.ordinal-returns-in-Range-clause-only
ordinal-returns-in-Range-clause-only t c =
    let start = c.in-Range.start in
    let end = c.in-Range.end in
    let low : FitsSigned w64 start = search rules in
    let passes = sym (member-range c.args.widths.now start end c.args.value.now) ∙ ap (λ s. is_member c.args.widths.now s c.args.value.now) (sym c.in-Range.is) ∙ c.requires.member in
    let told : (z : ℤ) → z ≡ start → is_between z end (out-Value c.args.value.now) ≡ true = λ z same. ap (λ y. is_between y end (out-Value c.args.value.now)) same ∙ passes in
    let same = to_z-of_z w64 start low in
    only_at c.args.widths.now c.args.sort.now (numbers_between start end) c.args.value.now c.number_place.result
    (ap (carrier c.args.widths.now) c.in-Range.is ∙ carrier-range c.args.widths.now start end)
    (ap (λ z. slice_get (numbers_between z end) c.number_place.result) (sym same) ∙ c.number_place.ensures end (told _ same))

pub ordinal-returns-in-Product-clause-only : goal.ordinal-returns-in-Product-clause-only
ordinal-returns-in-Product-clause-only t c =
    let parts = c.in-Product.parts in
    only_at c.args.widths.now c.args.sort.now (map values.Tuple (choices (map (carrier c.args.widths.now) c.as_slice.result.now))) c.args.value.now c.tuple_place.result
    (ap (carrier c.args.widths.now) c.in-Product.is ∙ carrier-product c.args.widths.now parts ∙ ap (λ ps. map values.Tuple (choices (map (carrier c.args.widths.now) ps))) (sym c.as_slice.ensures))
    c.tuple_place.ensures.place
