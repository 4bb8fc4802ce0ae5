use Rattle.std.proofs.Common.{ap, sym, ◌∙◌, subst, inr, Ok, refl, IsSome, IfSome, true≢false}
use Rattle.pn_partitions.specs.Partitions.{IsPartTable}
use Rattle.pn_resolve.specs.Tables.{IsExtent}
use Rattle.pn_sorts.proofs.SettleLemmas.{bad_extent}
use Rattle.pn_sorts.proofs.settle.divided.Goals as goal

pub returns-in-Some-2 : goal.returns-in-Some-2
returns-in-Some-2 c =
    let some = c.sort.ensures.some c.in-Some.base (c.in_ok-base.was ∙ ap Ok c.in-Some.is) c.args.items.now c.requires.table in (
      c.in-Some.base,
      some.0,
      c.in_ok-parts-in-Some.ensures.splits.0 (subst IsSome (sym c.in-Some-2.is) refl),
      subst (IsPartTable c.args.items.now c.in-Some.base c.args.elements.now) (sym c.from_vec.ensures)
          (subst (λ o. IfSome o (λ t. IsPartTable c.args.items.now c.in-Some.base c.args.elements.now t.items)) c.in-Some-2.is c.in_ok-parts-in-Some.ensures.table),
    )

pub returns-in-Some : goal.returns-in-Some
returns-in-Some c =
    let some = c.sort.ensures.some c.in-Some.base (c.in_ok-base.was ∙ ap Ok c.in-Some.is) c.args.items.now c.requires.table in (
      λ found. true≢false (sym (c.list_empty_range.ensures.1 found) ∙ c.if-list_empty_range.false),
      c.in-Some.base,
      some.0,
      λ splits. true≢false (sym (subst IsSome c.in-None-2.is (c.in_ok-parts-in-Some.ensures.splits.1 splits))),
    )

pub returns-in-NoSort : goal.returns-in-NoSort
returns-in-NoSort c = inr (subst (IsExtent c.args.items.now c.args.sort.now) c.in-NoSort.is (c.in_ok-walk-in-None.ensures.extent c.args.items.now c.requires.table))

pub returns : goal.returns
returns c =
    let bad = bad_extent c.args.items.now c.args.sort.now c.args.elements.now c.in_ok-walk-in-None.field-0 (c.in_ok-walk-in-None.ensures.extent c.args.items.now c.requires.table) c.in_default.not-NoSort
    (c.sort.ensures.none (c.in_ok-base.was ∙ ap Ok c.in-None.is) c.args.items.now c.requires.table) in
    (λ found. true≢false (sym (c.list_empty_range.ensures.1 found) ∙ c.if-list_empty_range.false), bad.0, bad.1, bad.2)
