use Rattle.std.proofs.Common.{rules, ◌≡◌, ◌-◌, ◌<◌, ◌%◌, true, map, length, Some, pos, ◌+ℤ◌, FitsSigned, w64, to_z, of_z, refl, ap, ◌∙◌, sym, subst, arith}
use Rattle.std.specs.List.{slice_get, list_all}
use Rattle.std.proofs.lemmas.Int.{to_z-of_z}
use Rattle.std.proofs.lemmas.List.{length-map}
use Rattle.pn_values.specs.declared.sort.Sort.TheViews.{the_lemmas}
use Rattle.pn_values.specs.declared.value.Value.TheVariants as values
use Rattle.pn_carriers.specs.Carriers.{is_finite, width_of, count_between, choices, carrier}
use Rattle.pn_carriers.proofs.LayerLemmas.{carrier-enumeration, carrier-partition, carrier-range, carrier-product, finite-product}
use Rattle.pn_carriers.proofs.PlaceLemmas.{map_place}
use Rattle.pn_carriers.proofs.SizeLemmas.{length_constants, length_numbers}
use Rattle.pn_carriers.proofs.CarrierLemmas.{constant_place, number_place, member_at}
use Rattle.pn_carriers.proofs.NthLemmas.{BehindParts, behind_next, behind_all, digit_within, part_finite, constant_fits, number_fits}
use Rattle.pn_carriers.proofs.values.+nth.Goals as goal

pub nth-overflow_cast-result : goal.nth-overflow_cast-result
nth-overflow_cast-result t c =
    constant_fits c.args.k (width_of c.args.widths.now c.in-Enumeration.field-0) _ c.requires.below
    (ap (λ s. length (carrier c.args.widths.now s)) c.in-Enumeration.is ∙ ap length (carrier-enumeration c.args.widths.now c.in-Enumeration.field-0) ∙ length_constants (width_of c.args.widths.now c.in-Enumeration.field-0))
    (c.type_inv.widths c.in-Enumeration.field-0)

pub nth-overflow_cast-result-in-Partition : goal.nth-overflow_cast-result-in-Partition
nth-overflow_cast-result-in-Partition t c =
    constant_fits c.args.k (width_of c.args.widths.now c.in-Partition.field-0) _ c.requires.below
    (ap (λ s. length (carrier c.args.widths.now s)) c.in-Partition.is ∙ ap length (carrier-partition c.args.widths.now c.in-Partition.field-0) ∙ length_constants (width_of c.args.widths.now c.in-Partition.field-0))
    (c.type_inv.widths c.in-Partition.field-0)

pub nth-number_at-requires : goal.nth-number_at-requires
nth-number_at-requires t c =
    let low : FitsSigned w64 c.in-Range.start = search rules in
    let high : FitsSigned w64 c.in-Range.end = search rules in
    let count : length (carrier c.args.widths.now c.args.sort.now) ≡ count_between c.in-Range.start c.in-Range.end =
    ap (λ s. length (carrier c.args.widths.now s)) c.in-Range.is ∙ ap length (carrier-range c.args.widths.now c.in-Range.start c.in-Range.end) ∙ length_numbers c.in-Range.start c.in-Range.end in
    subst (λ z. c.args.k < count_between z (to_z w64 (of_z w64 c.in-Range.end))) (sym (to_z-of_z w64 c.in-Range.start low)) (subst (λ z. c.args.k < count_between c.in-Range.start z) (sym (to_z-of_z w64 c.in-Range.end high)) (omega (arith, c.requires.below)))

pub nth-nth_choice-requires : goal.nth-nth_choice-requires
nth-nth_choice-requires t c =
    let parts = c.in-Product.parts in
    let finite : list_all is_finite c.as_slice.result.now ≡ true =
    ap (list_all is_finite) c.as_slice.ensures ∙ sym (finite-product parts) ∙ ap is_finite (sym c.in-Product.is) ∙ c.requires.finite in
    let count : length (carrier c.args.widths.now c.args.sort.now) ≡ length (choices (map (carrier c.args.widths.now) c.as_slice.result.now)) =
    ap (λ s. length (carrier c.args.widths.now s)) c.in-Product.is ∙ ap length (carrier-product c.args.widths.now parts) ∙ length-map (choices (map (carrier c.args.widths.now) parts)) values.Tuple
    ∙ ap (λ ps. length (choices (map (carrier c.args.widths.now) ps))) (sym c.as_slice.ensures) in
    let below : c.args.k < length (choices (map (carrier c.args.widths.now) c.as_slice.result.now)) = omega (arith, c.requires.below) in
    (search (rules, the_lemmas), (finite, below))

pub nth-returns-in-Enumeration : goal.nth-returns-in-Enumeration
nth-returns-in-Enumeration t c =
    let width = width_of c.args.widths.now c.in-Enumeration.field-0 in
    let all = ap (carrier c.args.widths.now) c.in-Enumeration.is ∙ carrier-enumeration c.args.widths.now c.in-Enumeration.field-0 in
    let below : c.args.k < width = omega (arith, c.requires.below, ap length all, length_constants width) in
    let place = ap (λ vs. slice_get vs c.args.k) all ∙ constant_place width c.args.k below in
    record { place = place; member = member_at c.args.widths.now c.args.sort.now c.args.k (values.Const c.args.k) place }

pub nth-returns-in-Partition : goal.nth-returns-in-Partition
nth-returns-in-Partition t c =
    let width = width_of c.args.widths.now c.in-Partition.field-0 in
    let all = ap (carrier c.args.widths.now) c.in-Partition.is ∙ carrier-partition c.args.widths.now c.in-Partition.field-0 in
    let below : c.args.k < width = omega (arith, c.requires.below, ap length all, length_constants width) in
    let place = ap (λ vs. slice_get vs c.args.k) all ∙ constant_place width c.args.k below in
    record { place = place; member = member_at c.args.widths.now c.args.sort.now c.args.k (values.Const c.args.k) place }

pub nth-returns-in-Range : goal.nth-returns-in-Range
nth-returns-in-Range t c =
    let start = c.in-Range.start in
    let end = c.in-Range.end in
    let low : FitsSigned w64 start = search rules in
    let high : FitsSigned w64 end = search rules in
    let all = ap (carrier c.args.widths.now) c.in-Range.is ∙ carrier-range c.args.widths.now start end in
    let below : c.args.k < count_between start end = omega (arith, c.requires.below, ap length all, length_numbers start end) in
    let told : c.number_at.result ≡ start +ℤ pos c.args.k = c.number_at.ensures ∙ ap (λ z. z +ℤ pos c.args.k) (to_z-of_z w64 start low) in
    let fits = number_fits start end c.args.k low high below in
    let same : to_z w64 (of_z w64 c.number_at.result) ≡ start +ℤ pos c.args.k = ap (λ z. to_z w64 (of_z w64 z)) told ∙ to_z-of_z w64 (start +ℤ pos c.args.k) fits in
    let place = ap (λ vs. slice_get vs c.args.k) all ∙ number_place start end c.args.k below ∙ ap (λ z. Some (values.Int z)) (sym same) in
    record { place = place; member = member_at c.args.widths.now c.args.sort.now c.args.k (values.Int (to_z w64 (of_z w64 c.number_at.result))) place }

pub nth-returns-in_ok-nth_choice-in-Product : goal.nth-returns-in_ok-nth_choice-in-Product
nth-returns-in_ok-nth_choice-in-Product t c =
    let parts = c.in-Product.parts in
    let all = ap (carrier c.args.widths.now) c.in-Product.is ∙ carrier-product c.args.widths.now parts in
    let choice : slice_get (choices (map (carrier c.args.widths.now) parts)) c.args.k ≡ Some c.in_ok-nth_choice-in-Product.field-0 =
    ap (λ ps. slice_get (choices (map (carrier c.args.widths.now) ps)) c.args.k) (sym c.as_slice.ensures) ∙ c.in_ok-nth_choice-in-Product.ensures in
    let place = ap (λ vs. slice_get vs c.args.k) all ∙ map_place values.Tuple (choices (map (carrier c.args.widths.now) parts)) c.args.k c.in_ok-nth_choice-in-Product.field-0 choice in
    record { place = place; member = member_at c.args.widths.now c.args.sort.now c.args.k (values.Tuple c.in_ok-nth_choice-in-Product.field-0) place }

pub nth_choice-nonzero_rem-place : goal.nth_choice-nonzero_rem-place
nth_choice-nonzero_rem-place t c =
    (digit_within c.args.widths.now c.args.parts.now c.args.k c.requires.below (omega arith) c.loop-left.left c.loop-left.rest c.loop-left.values.items c.loop-left.invariant.behind
    (c.loop-left.left - 1) c.index-parts-left.result c.finite_size-count.result (omega arith) c.index-parts-left.is c.finite_size-count.ensures).0

pub nth_choice-nth-requires : goal.nth_choice-nth-requires
nth_choice-nth-requires t c =
    let lt : c.loop-left.left - 1 < length c.args.parts.now = omega arith in
    let d = digit_within c.args.widths.now c.args.parts.now c.args.k c.requires.below (omega arith) c.loop-left.left c.loop-left.rest c.loop-left.values.items c.loop-left.invariant.behind
    (c.loop-left.left - 1) c.index-parts-left.result c.finite_size-count.result lt c.index-parts-left.is c.finite_size-count.ensures in
    (search (rules, the_lemmas), (part_finite c.args.parts.now (c.loop-left.left - 1) c.index-parts-left.result c.requires.finite lt c.index-parts-left.is, d.1))

pub nth_choice-loop-left-preserved : goal.nth_choice-loop-left-preserved
nth_choice-loop-left-preserved t c =
    let lt : c.loop-left.left - 1 < length c.args.parts.now = omega arith in
    let next = behind_next c.args.widths.now c.args.parts.now c.args.k c.requires.below (omega arith) c.loop-left.left c.loop-left.rest c.loop-left.values.items c.loop-left.invariant.behind
    (c.loop-left.left - 1) c.index-parts-left.result c.finite_size-count.result (c.loop-left.rest % c.finite_size-count.result) c.in_ok-nth.field-0 (omega arith) lt c.index-parts-left.is c.finite_size-count.ensures refl c.in_ok-nth.ensures.place in
    record { within = omega arith; behind = subst (BehindParts _ _ _ _) (sym c.in_ok-push.ensures.items) next }

pub nth_choice-returns : goal.nth_choice-returns
nth_choice-returns t c =
    behind_all c.args.widths.now c.args.parts.now c.args.k c.requires.below (omega arith) c.loop-left.left c.loop-left.rest c.loop-left.values.items c.loop-left.invariant.behind (omega arith)
    ∙ ap Some (sym (c.from_vec.ensures ∙ c.reverse.ensures.items))
