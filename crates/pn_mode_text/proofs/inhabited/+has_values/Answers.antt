use Rattle.std.proofs.Common.{◌≡◌, ◌+◌, suc, take, refl, sym, ap, ◌∙◌, subst, arith}
use Rattle.std.proofs.lemmas.Option.{slice_get_read}
use Rattle.pn_mode_text.specs.ValueReadings.{AreInhabitedParts}
use Rattle.pn_values.specs.declared.sort.Sort.TheVariants as sorts
use Rattle.pn_mode_text.proofs.InhabitedLemmas.{all_inhabited, dot_inhabited, empty_part, integer_inhabited, list_inhabited, more_inhabited, natural_inhabited, parts_tell, positive_inhabited, text_inhabited, truth_inhabited}
use Rattle.pn_mode_text.proofs.inhabited.+has_values.Goals as goal

pub has_values-returns-in-Product : goal.has_values-returns-in-Product
has_values-returns-in-Product t c = parts_tell c.args.decls.now c.args.sort.now _ c.have_values.result (c.in-Product.is ∙ ap sorts.Product (sym c.as_slice.ensures)) c.have_values.ensures

pub has_values-returns-in-Dot : goal.has_values-returns-in-Dot
has_values-returns-in-Dot t c = dot_inhabited c.args.decls.now c.args.sort.now c.in-Dot.is

pub has_values-returns-in-Bool : goal.has_values-returns-in-Bool
has_values-returns-in-Bool t c = truth_inhabited c.args.decls.now c.args.sort.now c.in-Bool.is

pub has_values-returns-in-Integer : goal.has_values-returns-in-Integer
has_values-returns-in-Integer t c = integer_inhabited c.args.decls.now c.args.sort.now c.in-Integer.is

pub has_values-returns-in-Natural : goal.has_values-returns-in-Natural
has_values-returns-in-Natural t c = natural_inhabited c.args.decls.now c.args.sort.now c.in-Natural.is

pub has_values-returns-in-Positive : goal.has_values-returns-in-Positive
has_values-returns-in-Positive t c = positive_inhabited c.args.decls.now c.args.sort.now c.in-Positive.is

pub has_values-returns-in-Text : goal.has_values-returns-in-Text
has_values-returns-in-Text t c = text_inhabited c.args.decls.now c.args.sort.now c.in-Text.is

pub has_values-returns-in-List : goal.has_values-returns-in-List
has_values-returns-in-List t c = list_inhabited c.args.decls.now c.args.sort.now c.in-List.field-0 c.in-List.is

pub have_values-returns-then-not-has_values : goal.have_values-returns-then-not-has_values
have_values-returns-then-not-has_values t c =
    let a = c.args in
    empty_part a.decls.now a.sorts.now c.loop-i.i c.index-sorts-i.result (slice_get_read a.sorts.now _ c.loop-i.i c.index-sorts-i.result refl c.loop-i-test.true c.index-sorts-i.is) c.if-not-has_values.ensures

pub have_values-loop-i-preserved : goal.have_values-loop-i-preserved
have_values-loop-i-preserved t c =
    let a = c.args in
    let next : suc c.loop-i.i ≡ c.loop-i.i + 1 = omega arith in
    subst (λ n. AreInhabitedParts a.decls.now (take n a.sorts.now)) next
    (more_inhabited a.decls.now a.sorts.now c.loop-i.i c.index-sorts-i.result (slice_get_read a.sorts.now _ c.loop-i.i c.index-sorts-i.result refl c.loop-i-test.true c.index-sorts-i.is) c.loop-i.invariant c.if-not-has_values.ensures)

pub have_values-returns : goal.have_values-returns
have_values-returns t c = all_inhabited c.args.decls.now c.args.sorts.now c.loop-i.i (omega (arith, c.loop-i-test.false)) c.loop-i.invariant
