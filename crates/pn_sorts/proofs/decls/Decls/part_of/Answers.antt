use Rattle.std.proofs.Common.{◌≡◌, ◌<◌, ◌^◌, length, Some, sym, ap, ◌∙◌, subst, slice_get, IsSome}
use Rattle.std.specs.Option.{option_and_then}
use Rattle.pn_carriers.specs.Carriers.{carrier}
use Rattle.pn_carriers.specs.Members.{IsMember}
use Rattle.pn_names.specs.Names.{AreNumbered, widths_of}
use Rattle.pn_sorts.specs.Keeping.{IsResolved}
use Rattle.pn_sorts.specs.Kept.{sort_kept}
use Rattle.pn_sorts.proofs.TableLemmas.{base_at, entry_there, is_base_sort, is_part_of, sort_stands, splittable_is_small, table_at}
use Rattle.pn_sorts.proofs.decls.Decls.part_of.Goals as goal

pub sort_at-base-requires : goal.sort_at-base-requires
sort_at-base-requires c =
    let resolved = subst (λ items. IsResolved items c.self.inside.table.sorts c.self.inside.sorts.items c.self.inside.tables.items) c.self.view_is c.self.invariant.resolved in
    let b = base_at c.args.self.now c.self.inside.table.sorts c.self.inside.sorts.items c.self.inside.tables.items c.args.partition resolved c.requires.faultless c.requires.partition in
    let there = sort_stands c.args.self.now c.self.inside.table.sorts c.self.inside.sorts.items c.args.partition b in
    subst (λ l. IsSome (sort_kept c.self.inside.table.sorts l c.args.partition)) (sym c.deref.ensures.value) there

pub ordinal-place-requires-clause-finite : goal.ordinal-place-requires-clause-finite
ordinal-place-requires-clause-finite c =
    let resolved = subst (λ items. IsResolved items c.self.inside.table.sorts c.self.inside.sorts.items c.self.inside.tables.items) c.self.view_is c.self.invariant.resolved in
    let b = base_at c.args.self.now c.self.inside.table.sorts c.self.inside.sorts.items c.self.inside.tables.items c.args.partition resolved c.requires.faultless c.requires.partition in
    let s = c.sort_at-base.result.now in
    let there : sort_kept c.self.inside.table.sorts c.self.inside.sorts.items c.args.partition ≡ Some s = ap (λ l. sort_kept c.self.inside.table.sorts l c.args.partition) (sym c.deref.ensures.value) ∙ c.sort_at-base.ensures in
    let base = is_base_sort c.args.self.now c.self.inside.table.sorts c.self.inside.sorts.items c.args.partition s b there in
    let has = table_at c.args.self.now c.self.inside.table.sorts c.self.inside.sorts.items c.self.inside.tables.items c.args.partition s resolved c.requires.faultless b there in
    let widths : c.deref-2.result.now ≡ widths_of c.args.self.now = c.deref-2.ensures.value ∙ c.self.invariant.indexed.counts ∙ ap widths_of c.self.view_is in
    let small = splittable_is_small c.args.self.now s (subst AreNumbered c.self.view_is c.self.invariant.indexed.numbered) has.splits.splittable in
    small.0

pub ordinal-place-requires-clause-few : goal.ordinal-place-requires-clause-few
ordinal-place-requires-clause-few c =
    let resolved = subst (λ items. IsResolved items c.self.inside.table.sorts c.self.inside.sorts.items c.self.inside.tables.items) c.self.view_is c.self.invariant.resolved in
    let b = base_at c.args.self.now c.self.inside.table.sorts c.self.inside.sorts.items c.self.inside.tables.items c.args.partition resolved c.requires.faultless c.requires.partition in
    let s = c.sort_at-base.result.now in
    let there : sort_kept c.self.inside.table.sorts c.self.inside.sorts.items c.args.partition ≡ Some s = ap (λ l. sort_kept c.self.inside.table.sorts l c.args.partition) (sym c.deref.ensures.value) ∙ c.sort_at-base.ensures in
    let base = is_base_sort c.args.self.now c.self.inside.table.sorts c.self.inside.sorts.items c.args.partition s b there in
    let has = table_at c.args.self.now c.self.inside.table.sorts c.self.inside.sorts.items c.self.inside.tables.items c.args.partition s resolved c.requires.faultless b there in
    let widths : c.deref-2.result.now ≡ widths_of c.args.self.now = c.deref-2.ensures.value ∙ c.self.invariant.indexed.counts ∙ ap widths_of c.self.view_is in
    let small = splittable_is_small c.args.self.now s (subst AreNumbered c.self.view_is c.self.invariant.indexed.numbered) has.splits.splittable in
    subst (λ w. length (carrier w s) < 2 ^ 64) (sym widths) small.1

pub ordinal-place-requires-clause-member : goal.ordinal-place-requires-clause-member
ordinal-place-requires-clause-member c =
    let resolved = subst (λ items. IsResolved items c.self.inside.table.sorts c.self.inside.sorts.items c.self.inside.tables.items) c.self.view_is c.self.invariant.resolved in
    let b = base_at c.args.self.now c.self.inside.table.sorts c.self.inside.sorts.items c.self.inside.tables.items c.args.partition resolved c.requires.faultless c.requires.partition in
    let s = c.sort_at-base.result.now in
    let there : sort_kept c.self.inside.table.sorts c.self.inside.sorts.items c.args.partition ≡ Some s = ap (λ l. sort_kept c.self.inside.table.sorts l c.args.partition) (sym c.deref.ensures.value) ∙ c.sort_at-base.ensures in
    let base = is_base_sort c.args.self.now c.self.inside.table.sorts c.self.inside.sorts.items c.args.partition s b there in
    let has = table_at c.args.self.now c.self.inside.table.sorts c.self.inside.sorts.items c.self.inside.tables.items c.args.partition s resolved c.requires.faultless b there in
    let widths : c.deref-2.result.now ≡ widths_of c.args.self.now = c.deref-2.ensures.value ∙ c.self.invariant.indexed.counts ∙ ap widths_of c.self.view_is in
    subst (λ w. IsMember w c.args.value.now s) (sym widths) (c.requires.member s base)

pub entry-requires : goal.entry-requires
entry-requires c =
    let resolved = subst (λ items. IsResolved items c.self.inside.table.sorts c.self.inside.sorts.items c.self.inside.tables.items) c.self.view_is c.self.invariant.resolved in
    let b = base_at c.args.self.now c.self.inside.table.sorts c.self.inside.sorts.items c.self.inside.tables.items c.args.partition resolved c.requires.faultless c.requires.partition in
    let s = c.sort_at-base.result.now in
    let there : sort_kept c.self.inside.table.sorts c.self.inside.sorts.items c.args.partition ≡ Some s = ap (λ l. sort_kept c.self.inside.table.sorts l c.args.partition) (sym c.deref.ensures.value) ∙ c.sort_at-base.ensures in
    let base = is_base_sort c.args.self.now c.self.inside.table.sorts c.self.inside.sorts.items c.args.partition s b there in
    let has = table_at c.args.self.now c.self.inside.table.sorts c.self.inside.sorts.items c.self.inside.tables.items c.args.partition s resolved c.requires.faultless b there in
    let widths : c.deref-2.result.now ≡ widths_of c.args.self.now = c.deref-2.ensures.value ∙ c.self.invariant.indexed.counts ∙ ap widths_of c.self.view_is in
    let at : slice_get (carrier (widths_of c.args.self.now) s) c.ordinal-place.result ≡ Some c.args.value.now = ap (λ w. slice_get (carrier w s) c.ordinal-place.result) (sym widths) ∙ c.ordinal-place.ensures.place in
    let found = entry_there c.args.self.now c.self.inside.tables.items c.args.partition c.ordinal-place.result b.declaration s c.args.value.now has at in
    (found.0, ap (λ l. slice_get l c.args.partition) c.deref-3.ensures.value ∙ found.1, found.2)

pub returns : goal.returns
returns c =
    let resolved = subst (λ items. IsResolved items c.self.inside.table.sorts c.self.inside.sorts.items c.self.inside.tables.items) c.self.view_is c.self.invariant.resolved in
    let b = base_at c.args.self.now c.self.inside.table.sorts c.self.inside.sorts.items c.self.inside.tables.items c.args.partition resolved c.requires.faultless c.requires.partition in
    let s = c.sort_at-base.result.now in
    let there : sort_kept c.self.inside.table.sorts c.self.inside.sorts.items c.args.partition ≡ Some s = ap (λ l. sort_kept c.self.inside.table.sorts l c.args.partition) (sym c.deref.ensures.value) ∙ c.sort_at-base.ensures in
    let base = is_base_sort c.args.self.now c.self.inside.table.sorts c.self.inside.sorts.items c.args.partition s b there in
    let has = table_at c.args.self.now c.self.inside.table.sorts c.self.inside.sorts.items c.self.inside.tables.items c.args.partition s resolved c.requires.faultless b there in
    let widths : c.deref-2.result.now ≡ widths_of c.args.self.now = c.deref-2.ensures.value ∙ c.self.invariant.indexed.counts ∙ ap widths_of c.self.view_is in
    let at : slice_get (carrier (widths_of c.args.self.now) s) c.ordinal-place.result ≡ Some c.args.value.now = ap (λ w. slice_get (carrier w s) c.ordinal-place.result) (sym widths) ∙ c.ordinal-place.ensures.place in
    is_part_of c.args.self.now c.self.inside.table.sorts c.self.inside.sorts.items c.self.inside.tables.items c.args.partition c.ordinal-place.result c.entry.result s c.args.value.now b base has at
    (ap (λ l. option_and_then (λ t. option_and_then (λ table. slice_get table c.ordinal-place.result) t) (slice_get l c.args.partition)) (sym c.deref-3.ensures.value) ∙ c.entry.ensures)
