use Rattle.std.proofs.Common.{◌≡◌, ℕ, List, ◌++◌, Some, map, take, length, subst, refl, sym, ap, ◌∙◌, arith}
use Rattle.std.specs.List.{flat_map, slice_get}
use Rattle.pn_syntax.specs.declared.declaration.ConstExpr.{ConstExpr}
use Rattle.pn_partitions.specs.Tables.{place_of, places_in, IsFilled, IsSpoilt}
use Rattle.pn_partitions.proofs.TableLemmas.{places_there, next_places, refused_element}
use Rattle.pn_partitions.proofs.table.enter_elements.Goals as goal

pub returns-then-not-enter_values-clause-refused : goal.returns-then-not-enter_values-clause-refused
returns-then-not-enter_values-clause-refused c _ =
    let places = places_in c.args.index.now c.args.base.now in
    let i = c.loop-element.element-index in
    let e = c.element-item.result in
    let same : map (place_of c.args.index.now c.args.base.now) c.as_slice.result.now ≡ places e = ap (λ (vs : List ConstExpr). map (place_of c.args.index.now c.args.base.now) vs) c.as_slice.ensures in
    let there = ap (slice_get (map places c.args.elements.now)) c.loop-element.invariant.0 ∙ places_there places c.args.elements.now i e c.loop-element-test.true c.element-item.is ∙ ap Some (sym same) in
    let spoilt = c.if-not-enter_values.ensures.refused refl (map places c.args.elements.now) (flat_map places (take i c.args.elements.now)) there c.loop-element.invariant.1 in
    subst (λ (n : ℕ). IsSpoilt n (flat_map places c.args.elements.now)) c.loop-element.auto.table
    (refused_element places c.args.elements.now i e c.loop-element-test.true c.element-item.is (length c.loop-element.table) (subst (λ l. IsSpoilt (length c.loop-element.table) (flat_map places (take i c.args.elements.now) ++ l)) same spoilt))

pub loop-element-preserved : goal.loop-element-preserved
loop-element-preserved c =
    let places = places_in c.args.index.now c.args.base.now in
    let i = c.loop-element.element-index in
    let e = c.element-item.result in
    let same : map (place_of c.args.index.now c.args.base.now) c.as_slice.result.now ≡ places e = ap (λ (vs : List ConstExpr). map (place_of c.args.index.now c.args.base.now) vs) c.as_slice.ensures in
    let there = ap (slice_get (map places c.args.elements.now)) c.loop-element.invariant.0 ∙ places_there places c.args.elements.now i e c.loop-element-test.true c.element-item.is ∙ ap Some (sym same) in
    let filled = c.if-not-enter_values.ensures.entered refl (map places c.args.elements.now) (flat_map places (take i c.args.elements.now)) there c.loop-element.invariant.1 in
    (omega arith, subst (λ l. IsFilled (map places c.args.elements.now) l c.enter_values.new.table) (ap (λ l. flat_map places (take i c.args.elements.now) ++ l) same ∙ next_places places c.args.elements.now i e c.loop-element-test.true c.element-item.is) filled)
