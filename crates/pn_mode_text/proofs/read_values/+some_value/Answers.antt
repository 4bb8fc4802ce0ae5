use Rattle.std.proofs.Common.{rules, ℕ, Bool, FitsSigned, w64, to_z, of_z, pos, List, Bor, [], ◌∷◌, codes, refl, sym, ap, ◌∙◌, subst, arith}
use Rattle.std.proofs.lemmas.Bool.Decides.{nat_tests}
use Rattle.std.proofs.lemmas.Int.{to_z-of_z}
use Rattle.std.proofs.lemmas.Option.{slice_get_read}
use Rattle.pn_carriers.specs.Members.{least_number, greatest_number}
use Rattle.pn_values.specs.declared.sort.Sort.TheVariants as sorts
use Rattle.pn_values.specs.declared.sort.Sort.TheViews.{the_lemmas}
use Rattle.pn_values.specs.declared.value.Value.{Value}
use Rattle.pn_values.specs.declared.value.Value.TheVariants as values
use Rattle.pn_words.specs.Languages.{Broken, Closed, IsRead}
use Rattle.pn_mode_text.specs.Readings.{IsConstantText, IsValueText}
use Rattle.pn_mode_text.specs.ValueReadings.{AreItemTexts, ArePartTexts, IsBracketed, IsDotText, IsListRest, IsNumberText, IsOpened, IsTextText, IsTruthText, IsTupleRest}
use Rattle.pn_mode_text.proofs.BracketLemmas.{behind_bracket, bracket_breaks, value_breaks, value_closed}
use Rattle.pn_mode_text.proofs.InhabitedLemmas.{part_inhabited, product_has}
use Rattle.pn_mode_text.proofs.ItemReadings.{AreItemsReadUpTo, all_items_read, item_breaks, item_next, list_some, no_items_found, no_list, some_items}
use Rattle.pn_mode_text.proofs.PartReadings.{all_parts_read, no_parts_broken, no_parts_found, part_breaks, part_next, rest_of_parts, tuple_some}
use Rattle.pn_mode_text.proofs.ReadingLemmas.{breaks_on, reads_on}
use Rattle.pn_mode_text.proofs.SortReadings.{between_alike, dot_alike, enumeration_alike, integer_alike, list_alike, natural_alike, partition_alike, positive_alike, reads_alike, text_alike, truth_alike, tuple_alike}
use Rattle.pn_mode_text.proofs.read_values.+some_value.Goals as goal

pub some_value-returns-in-Dot : goal.some_value-returns-in-Dot
some_value-returns-in-Dot t c =
    let a = c.args in
    reads_alike {T = (Value × ℕ) × Bor (List ℕ)} (IsDotText) (IsValueText a.decls.now a.sort.now) a.marks.now a.bytes.now (λ x. x.0) (λ x. x.1.now) c.dot.result
    (dot_alike a.decls.now a.sort.now c.in-Dot.is) c.dot.ensures

pub some_value-returns-in-Bool : goal.some_value-returns-in-Bool
some_value-returns-in-Bool t c =
    let a = c.args in
    reads_alike {T = (Value × ℕ) × Bor (List ℕ)} (IsTruthText) (IsValueText a.decls.now a.sort.now) a.marks.now a.bytes.now (λ x. x.0) (λ x. x.1.now) c.truth.result
    (truth_alike a.decls.now a.sort.now c.in-Bool.is) c.truth.ensures

pub some_value-returns-in-Enumeration : goal.some_value-returns-in-Enumeration
some_value-returns-in-Enumeration t c =
    let a = c.args in
    reads_alike {T = (Value × ℕ) × Bor (List ℕ)} (IsConstantText a.decls.now c.in-Enumeration.place) (IsValueText a.decls.now a.sort.now) a.marks.now a.bytes.now (λ x. x.0) (λ x. x.1.now) c.constant.result
    (enumeration_alike a.decls.now a.sort.now c.in-Enumeration.place c.in-Enumeration.is) c.constant.ensures

pub some_value-returns-in-Partition : goal.some_value-returns-in-Partition
some_value-returns-in-Partition t c =
    let a = c.args in
    reads_alike {T = (Value × ℕ) × Bor (List ℕ)} (IsConstantText a.decls.now c.in-Partition.place) (IsValueText a.decls.now a.sort.now) a.marks.now a.bytes.now (λ x. x.0) (λ x. x.1.now) c.constant-in-Partition.result
    (partition_alike a.decls.now a.sort.now c.in-Partition.place c.in-Partition.is) c.constant-in-Partition.ensures

pub some_value-returns-in-Range : goal.some_value-returns-in-Range
some_value-returns-in-Range t c =
    let a = c.args in
    let low = c.in-Range.start in
    let high = c.in-Range.end in
    let low_fits : FitsSigned w64 low = search rules in
    let high_fits : FitsSigned w64 high = search rules in
    reads_alike {T = (Value × ℕ) × Bor (List ℕ)} (IsNumberText (to_z w64 (of_z w64 low)) (to_z w64 (of_z w64 high))) (IsValueText a.decls.now a.sort.now) a.marks.now a.bytes.now (λ x. x.0) (λ x. x.1.now) c.whole.result
    (between_alike a.decls.now a.sort.now low high (to_z w64 (of_z w64 low)) (to_z w64 (of_z w64 high)) (to_z-of_z w64 low low_fits) (to_z-of_z w64 high high_fits) c.in-Range.is) c.whole.ensures

pub some_value-returns-in-Integer : goal.some_value-returns-in-Integer
some_value-returns-in-Integer t c =
    let a = c.args in
    reads_alike {T = (Value × ℕ) × Bor (List ℕ)} (IsNumberText least_number greatest_number) (IsValueText a.decls.now a.sort.now) a.marks.now a.bytes.now (λ x. x.0) (λ x. x.1.now) c.whole-in-Integer.result
    (integer_alike a.decls.now a.sort.now c.in-Integer.is) c.whole-in-Integer.ensures

pub some_value-returns-in-Natural : goal.some_value-returns-in-Natural
some_value-returns-in-Natural t c =
    let a = c.args in
    reads_alike {T = (Value × ℕ) × Bor (List ℕ)} (IsNumberText (pos 0) greatest_number) (IsValueText a.decls.now a.sort.now) a.marks.now a.bytes.now (λ x. x.0) (λ x. x.1.now) c.whole-in-Natural.result
    (natural_alike a.decls.now a.sort.now c.in-Natural.is) c.whole-in-Natural.ensures

pub some_value-returns-in-Positive : goal.some_value-returns-in-Positive
some_value-returns-in-Positive t c =
    let a = c.args in
    reads_alike {T = (Value × ℕ) × Bor (List ℕ)} (IsNumberText (pos 1) greatest_number) (IsValueText a.decls.now a.sort.now) a.marks.now a.bytes.now (λ x. x.0) (λ x. x.1.now) c.whole-in-Positive.result
    (positive_alike a.decls.now a.sort.now c.in-Positive.is) c.whole-in-Positive.ensures

pub some_value-returns-in-Text : goal.some_value-returns-in-Text
some_value-returns-in-Text t c =
    let a = c.args in
    reads_alike {T = (Value × ℕ) × Bor (List ℕ)} (IsTextText) (IsValueText a.decls.now a.sort.now) a.marks.now a.bytes.now (λ x. x.0) (λ x. x.1.now) c.text.result
    (text_alike a.decls.now a.sort.now c.in-Text.is) c.text.ensures

pub some_value-returns-in-Product : goal.some_value-returns-in-Product
some_value-returns-in-Product t c =
    let a = c.args in
    reads_alike {T = (Value × ℕ) × Bor (List ℕ)} (IsOpened (codes "(") values.Tuple (IsTupleRest a.decls.now c.as_slice.result.now)) (IsValueText a.decls.now a.sort.now) a.marks.now a.bytes.now (λ x. x.0) (λ x. x.1.now) c.tuple.result
    (tuple_alike a.decls.now a.sort.now c.as_slice.result.now (c.in-Product.is ∙ ap sorts.Product (sym c.as_slice.ensures))) c.tuple.ensures

pub some_value-returns-in-List : goal.some_value-returns-in-List
some_value-returns-in-List t c =
    let a = c.args in
    reads_alike {T = (Value × ℕ) × Bor (List ℕ)} (IsOpened (codes "[") values.List (IsListRest a.decls.now c.get.result.now)) (IsValueText a.decls.now a.sort.now) a.marks.now a.bytes.now (λ x. x.0) (λ x. x.1.now) c.list.result
    (list_alike a.decls.now a.sort.now c.get.result.now (c.in-List.is ∙ ap sorts.List (sym c.get.ensures))) c.list.ensures

pub some_value-tuple-requires : goal.some_value-tuple-requires
some_value-tuple-requires t c =
    let a = c.args in
    (search (rules, the_lemmas), (c.requires.distinct, (c.requires.named, (product_has a.decls.now a.sort.now c.as_slice.result.now (c.in-Product.is ∙ ap sorts.Product (sym c.as_slice.ensures)) c.requires.inhabited, c.requires.some))))

pub tuple-returns-in-Ok : goal.tuple-returns-in-Ok
tuple-returns-in-Ok t c =
    let a = c.args in
    value_closed (codes "(") values.Tuple (IsTupleRest a.decls.now a.parts.now) a.marks.now a.bytes.now c.tuple_parts.new.values c.in-Ok.rest.now c.closed.result c.requires.some c.in-Ok.ensures c.closed.ensures.value c.closed.ensures.mark

pub tuple-returns : goal.tuple-returns
tuple-returns t c =
    let a = c.args in
    breaks_on {T = Bor (List ℕ)} {S = (Value × ℕ) × Bor (List ℕ)} (Closed (IsOpened (codes "(") values.Tuple (IsTupleRest a.decls.now a.parts.now)) a.marks.now) a.bytes.now (IsBracketed (codes "(") (IsTupleRest a.decls.now a.parts.now)) a.bytes.now (λ x. c.tuple_parts.new.values) (λ x. x.now)
    (λ x. x.0) (λ x. x.1.now) c.in-Err.fault (λ left h. value_breaks (codes "(") values.Tuple (IsTupleRest a.decls.now a.parts.now) a.marks.now a.bytes.now left c.requires.some h) c.in-Err.ensures

pub list-returns-in-Ok : goal.list-returns-in-Ok
list-returns-in-Ok t c =
    let a = c.args in
    value_closed (codes "[") values.List (IsListRest a.decls.now a.item.now) a.marks.now a.bytes.now c.list_items.new.values c.in-Ok.rest.now c.closed.result c.requires.some c.in-Ok.ensures c.closed.ensures.value c.closed.ensures.mark

pub list-returns : goal.list-returns
list-returns t c =
    let a = c.args in
    breaks_on {T = Bor (List ℕ)} {S = (Value × ℕ) × Bor (List ℕ)} (Closed (IsOpened (codes "[") values.List (IsListRest a.decls.now a.item.now)) a.marks.now) a.bytes.now (IsBracketed (codes "[") (IsListRest a.decls.now a.item.now)) a.bytes.now (λ x. c.list_items.new.values) (λ x. x.now)
    (λ x. x.0) (λ x. x.1.now) c.in-Err.fault (λ left h. value_breaks (codes "[") values.List (IsListRest a.decls.now a.item.now) a.marks.now a.bytes.now left c.requires.some h) c.in-Err.ensures

pub tuple_parts-returns-in-Ok : goal.tuple_parts-returns-in-Ok
tuple_parts-returns-in-Ok t c =
    let a = c.args in
    reads_on {T = Bor (List ℕ)} (IsBracketed (codes "(") (IsTupleRest a.decls.now a.parts.now)) a.bytes.now (IsTupleRest a.decls.now a.parts.now) c.in-Ok.rest.now (λ vs. vs) (λ x. c.tuple_rest.new.values) (λ x. x.now) c.tuple_rest.result
    (behind_bracket (codes "(") (IsTupleRest a.decls.now a.parts.now) a.bytes.now c.in-Ok.rest.now (tuple_some a.decls.now a.parts.now c.requires.inhabited) c.in-Ok.ensures) c.tuple_rest.ensures

pub tuple_parts-returns-in-Err : goal.tuple_parts-returns-in-Err
tuple_parts-returns-in-Err t c =
    let a = c.args in
    bracket_breaks (codes "(") (IsTupleRest a.decls.now a.parts.now) a.bytes.now c.in-Err.left (tuple_some a.decls.now a.parts.now c.requires.inhabited) c.in-Err.ensures

pub list_items-returns-in-Ok : goal.list_items-returns-in-Ok
list_items-returns-in-Ok t c =
    let a = c.args in
    reads_on {T = Bor (List ℕ)} (IsBracketed (codes "[") (IsListRest a.decls.now a.item.now)) a.bytes.now (IsListRest a.decls.now a.item.now) c.in-Ok.rest.now (λ vs. vs) (λ x. c.list_rest.new.values) (λ x. x.now) c.list_rest.result
    (behind_bracket (codes "[") (IsListRest a.decls.now a.item.now) a.bytes.now c.in-Ok.rest.now (list_some a.decls.now a.item.now) c.in-Ok.ensures) c.list_rest.ensures

pub list_items-returns-in-Err : goal.list_items-returns-in-Err
list_items-returns-in-Err t c =
    let a = c.args in
    bracket_breaks (codes "[") (IsListRest a.decls.now a.item.now) a.bytes.now c.in-Err.left (list_some a.decls.now a.item.now) c.in-Err.ensures

pub tuple_rest-returns-then-not-is_empty : goal.tuple_rest-returns-then-not-is_empty
tuple_rest-returns-then-not-is_empty t c =
    rest_of_parts c.args.decls.now c.args.parts.now c.args.bytes.now _ _ _ (grind (arith, nat_tests, c.is_empty.ensures, c.if-not-is_empty.true)) c.each_part.ensures

pub tuple_rest-returns-in-Ok : goal.tuple_rest-returns-in-Ok
tuple_rest-returns-in-Ok t c = no_parts_found c.args.decls.now c.args.parts.now c.args.bytes.now c.in-Ok.rest.now _ (grind (arith, nat_tests, c.is_empty.ensures, c.if-not-is_empty.false)) c.requires.none c.in-Ok.ensures

pub tuple_rest-returns-in-Err : goal.tuple_rest-returns-in-Err
tuple_rest-returns-in-Err t c = no_parts_broken c.args.decls.now c.args.parts.now c.args.bytes.now c.in-Err.left (grind (arith, nat_tests, c.is_empty.ensures, c.if-not-is_empty.false)) c.in-Err.ensures

pub each_part-some_value-requires : goal.each_part-some_value-requires
each_part-some_value-requires t c =
    let a = c.args in
    let got = slice_get_read a.parts.now _ c.loop-i.i c.index-parts-i.result refl c.loop-i-test.true c.index-parts-i.is in
    (search (rules, the_lemmas), (c.requires.distinct, (c.requires.named, (part_inhabited a.decls.now a.parts.now c.loop-i.i c.index-parts-i.result got c.requires.inhabited, (c.mark_behind.ensures.some, c.mark_behind.ensures.stops)))))

pub each_part-returns-in-Err : goal.each_part-returns-in-Err
each_part-returns-in-Err t c =
    let a = c.args in
    let l = c.loop-i in
    let s = c.index-parts-i.result in
    let got = slice_get_read a.parts.now _ l.i s refl c.loop-i-test.true c.index-parts-i.is in
    breaks_on {T = (Value × ℕ) × Bor (List ℕ)} {S = Bor (List ℕ)} (ArePartTexts a.decls.now a.parts.now) a.bytes.now (Closed (IsValueText a.decls.now s) c.mark_behind.result.now) l.rest.now (λ y. y.0) (λ y. y.1.now)
    (λ y. l.values) (λ y. y.now) c.in-Err.fault
    (λ left h. part_breaks a.decls.now a.parts.now a.bytes.now l.i l.values l.rest.now s left c.requires.inhabited got l.invariant
    (subst (λ marks. Broken (Closed (IsValueText a.decls.now s) marks) l.rest.now left) (c.mark_behind.ensures.mark a.parts.now refl) h))
    c.in-Err.ensures

pub each_part-loop-i-preserved : goal.each_part-loop-i-preserved
each_part-loop-i-preserved t c =
    let a = c.args in
    let l = c.loop-i in
    let s = c.index-parts-i.result in
    let got = slice_get_read a.parts.now _ l.i s refl c.loop-i-test.true c.index-parts-i.is in
    part_next a.decls.now a.parts.now a.bytes.now l.i l.values _ l.rest.now c.in-Ok.read.1.now s c.in-Ok.read.0.0 c.in-Ok.read.0.1 c.requires.inhabited got c.in-Ok-push.ensures.ok l.invariant
    (subst (λ marks. IsRead (Closed (IsValueText a.decls.now s) marks) l.rest.now (c.in-Ok.read.0.0, c.in-Ok.read.0.1) c.in-Ok.read.1.now) (c.mark_behind.ensures.mark a.parts.now refl) c.in-Ok.ensures)

pub each_part-returns : goal.each_part-returns
each_part-returns t c = all_parts_read c.args.decls.now c.args.parts.now c.args.bytes.now c.loop-i.i c.loop-i.values c.loop-i.rest.now (omega (arith, c.loop-i-test.false)) c.loop-i.invariant

pub list_rest-returns-in-Ok : goal.list_rest-returns-in-Ok
list_rest-returns-in-Ok t c = no_items_found c.args.decls.now c.args.item.now c.requires.named c.args.bytes.now c.in-Ok.rest.now _ c.requires.none c.in-Ok.ensures

pub list_rest-returns-then-not-has_values : goal.list_rest-returns-then-not-has_values
list_rest-returns-then-not-has_values t c = no_list c.args.decls.now c.args.item.now c.args.bytes.now c.in-Err.field-0 c.if-not-has_values.ensures c.in-Err.ensures

pub list_rest-returns-else-not-has_values : goal.list_rest-returns-else-not-has_values
list_rest-returns-else-not-has_values t c =
    let a = c.args in
    reads_on (IsListRest a.decls.now a.item.now) a.bytes.now (AreItemTexts a.decls.now a.item.now) a.bytes.now (λ vs. vs) _ _ _ (some_items a.decls.now a.item.now a.bytes.now c.in-Err.field-0 c.in-Err.ensures) c.each_item.ensures

pub each_item-returns-in-Err : goal.each_item-returns-in-Err
each_item-returns-in-Err t c =
    let a = c.args in
    let l = c.loop-goes_on in
    let so_far = subst (λ (b : Bool). AreItemsReadUpTo a.decls.now a.item.now a.bytes.now b l.values l.rest.now) c.loop-goes_on-test.true l.invariant in
    breaks_on {T = (Value × ℕ) × Bor (List ℕ)} {S = Bor (List ℕ)} (AreItemTexts a.decls.now a.item.now) a.bytes.now (Closed (IsValueText a.decls.now a.item.now) (44 ∷ 93 ∷ [])) l.rest.now (λ y. y.0) (λ y. y.1.now)
    (λ y. l.values) (λ y. y.now) c.in-Err.fault (λ left h. item_breaks a.decls.now a.item.now a.bytes.now l.values l.rest.now left c.requires.inhabited so_far h) c.in-Err.ensures

pub each_item-loop-goes_on-preserved : goal.each_item-loop-goes_on-preserved
each_item-loop-goes_on-preserved t c =
    let a = c.args in
    let l = c.loop-goes_on in
    let so_far = subst (λ (b : Bool). AreItemsReadUpTo a.decls.now a.item.now a.bytes.now b l.values l.rest.now) c.loop-goes_on-test.true l.invariant in
    item_next a.decls.now a.item.now a.bytes.now l.values _ l.rest.now c.in-Ok.read.1.now c.in-Ok.read.0.0 c.in-Ok.read.0.1 c.requires.inhabited c.in-Ok-push.ensures.ok so_far c.in-Ok.ensures

pub each_item-returns : goal.each_item-returns
each_item-returns t c =
    let a = c.args in
    let l = c.loop-goes_on in
    all_items_read a.decls.now a.item.now a.bytes.now l.values l.rest.now (subst (λ (b : Bool). AreItemsReadUpTo a.decls.now a.item.now a.bytes.now b l.values l.rest.now) c.loop-goes_on-test.false l.invariant)
