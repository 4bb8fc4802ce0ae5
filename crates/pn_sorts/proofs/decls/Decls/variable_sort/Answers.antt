use Rattle.std.proofs.Common.{◌<◌, length, sym, ap, ◌∙◌, subst, slice_get, IsSome}
use Rattle.pn_names.specs.Names.{variable_places_of}
use Rattle.pn_names.proofs.DeclaredLemmas.{as_many_places}
use Rattle.pn_sorts.specs.Keeping.{IsResolved}
use Rattle.pn_sorts.specs.Kept.{sort_kept}
use Rattle.pn_sorts.proofs.TableLemmas.{variable_with, is_variable_sort, variable_sort_stands}
use Rattle.pn_sorts.proofs.decls.Decls.variable_sort.Goals as goal

pub place_of-place-requires : goal.place_of-place-requires
place_of-place-requires c =
    subst (λ n. c.args.v < n) (sym (ap length (c.deref.ensures.value ∙ c.self.invariant.indexed.places ∙ ap variable_places_of c.self.view_is) ∙ as_many_places c.args.self.now)) c.requires.within

pub sort_at-requires : goal.sort_at-requires
sort_at-requires c =
    let resolved = subst (λ items. IsResolved items c.self.inside.table.sorts c.self.inside.sorts.items c.self.inside.tables.items) c.self.view_is c.self.invariant.resolved in
    let at = ap (λ l. slice_get l c.args.v) (sym (c.deref.ensures.value ∙ c.self.invariant.indexed.places ∙ ap variable_places_of c.self.view_is)) ∙ c.place_of-place.ensures in
    let x = variable_with c.args.self.now c.self.inside.table.sorts c.self.inside.sorts.items c.self.inside.tables.items c.args.v c.place_of-place.result resolved c.requires.faultless c.requires.within at in
    let there = variable_sort_stands c.args.self.now c.self.inside.table.sorts c.self.inside.sorts.items c.args.v c.place_of-place.result x in
    subst (λ l. IsSome (sort_kept c.self.inside.table.sorts l c.place_of-place.result)) (sym c.deref-2.ensures.value) there

pub returns : goal.returns
returns c =
    let resolved = subst (λ items. IsResolved items c.self.inside.table.sorts c.self.inside.sorts.items c.self.inside.tables.items) c.self.view_is c.self.invariant.resolved in
    let at = ap (λ l. slice_get l c.args.v) (sym (c.deref.ensures.value ∙ c.self.invariant.indexed.places ∙ ap variable_places_of c.self.view_is)) ∙ c.place_of-place.ensures in
    let x = variable_with c.args.self.now c.self.inside.table.sorts c.self.inside.sorts.items c.self.inside.tables.items c.args.v c.place_of-place.result resolved c.requires.faultless c.requires.within at in
    is_variable_sort c.args.self.now c.self.inside.table.sorts c.self.inside.sorts.items c.args.v c.place_of-place.result c.sort_at.result.now x (ap (λ l. sort_kept c.self.inside.table.sorts l c.place_of-place.result) (sym c.deref-2.ensures.value) ∙ c.sort_at.ensures)
