use Rattle.std.proofs.Common.{rules, ◌≡◌, ◌*◌, ◌^◌, min, length, FitsSigned, w64, to_z, of_z, ap, ◌∙◌, sym, subst, arith}
use Rattle.std.proofs.lemmas.Int.{to_z-of_z}
use Rattle.pn_values.specs.declared.sort.Size.TheVariants as sizes
use Rattle.pn_carriers.specs.Carriers.{count_between}
use Rattle.pn_carriers.specs.Sizes.{size_of, size_of_product, capped_size}
use Rattle.pn_carriers.proofs.SizeLemmas.{length_constants, length_numbers, finite_size_is, product_size_is, next_part}
use Rattle.pn_carriers.proofs.LayerLemmas.{carrier-enumeration, carrier-partition, carrier-range, finite-enumeration, finite-partition, finite-range}
use Rattle.pn_carriers.proofs.sizes.+size.Goals as goal

pub size-returns-in-Enumeration : goal.size-returns-in-Enumeration
size-returns-in-Enumeration t c = subst (λ s. sizes.Finite c.from.result ≡ capped_size (size_of c.args.widths.now s)) (sym c.in-Enumeration.is)
    (finite_size_is _ _ _ (finite-enumeration c.in-Enumeration.n) (ap length (carrier-enumeration c.args.widths.now c.in-Enumeration.n) ∙ length_constants _ ∙ sym (c.from.ensures ∙ c.width.ensures)) (omega arith))

pub size-returns-in-Product : goal.size-returns-in-Product
size-returns-in-Product t c = c.product_size.ensures ∙ ap (λ parts. capped_size (size_of_product c.args.widths.now parts)) c.as_slice.ensures
    ∙ ap capped_size (product_size_is c.args.widths.now c.in-Product.parts) ∙ ap (λ s. capped_size (size_of c.args.widths.now s)) (sym c.in-Product.is)

pub size-returns-in-Partition : goal.size-returns-in-Partition
size-returns-in-Partition t c = subst (λ s. sizes.Finite c.from-in-Partition.result ≡ capped_size (size_of c.args.widths.now s)) (sym c.in-Partition.is)
    (finite_size_is _ _ _ (finite-partition c.in-Partition.n) (ap length (carrier-partition c.args.widths.now c.in-Partition.n) ∙ length_constants _ ∙ sym (c.from-in-Partition.ensures ∙ c.width-in-Partition.ensures)) (omega arith))

pub size-returns-in-Range : goal.size-returns-in-Range
size-returns-in-Range t c =
    let low : FitsSigned w64 c.in-Range.start = search rules in
    let high : FitsSigned w64 c.in-Range.end = search rules in
    let is : c.count_between.result ≡ count_between c.in-Range.start c.in-Range.end =
    c.count_between.ensures.value ∙ ap (λ z. count_between z (to_z w64 (of_z w64 c.in-Range.end))) (to_z-of_z w64 c.in-Range.start low) ∙ ap (count_between c.in-Range.start) (to_z-of_z w64 c.in-Range.end high) in
    subst (λ s. sizes.Finite c.count_between.result ≡ capped_size (size_of c.args.widths.now s)) (sym c.in-Range.is)
    (finite_size_is _ _ _ (finite-range c.in-Range.start c.in-Range.end) (ap length (carrier-range c.args.widths.now c.in-Range.start c.in-Range.end) ∙ length_numbers c.in-Range.start c.in-Range.end ∙ sym is) c.count_between.ensures.most)

pub product_size-loop-part-preserved : goal.product_size-loop-part-preserved
product_size-loop-part-preserved t c =
    let now : c.min-total.result ≡ min (c.loop-part.total * c.in-Finite.count) (2 ^ 64) = omega (arith, c.min-total.ensures, c.saturating_mul.ensures) in
    let next = next_part c.args.widths.now c.args.parts.now c.loop-part.part-index c.part-item.result c.loop-part.total c.min-total.result c.in-Finite.count _ _
    c.loop-part-test.true c.part-item.is c.in-Finite.ensures now c.loop-part.invariant.finite c.loop-part.invariant.whole in
    record { capped = omega arith; finite = next.0; whole = next.1 }
