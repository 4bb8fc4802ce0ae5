use Rattle.std.proofs.Common.{sym, ap, ◌∙◌, subst, IsSome}
use Rattle.pn_sorts.specs.Keeping.{IsResolved}
use Rattle.pn_sorts.specs.Kept.{sort_kept}
use Rattle.pn_sorts.proofs.TableLemmas.{base_at, is_base_sort, sort_stands}
use Rattle.pn_sorts.proofs.decls.Decls.base_sort.Goals as goal

pub sort_at-requires : goal.sort_at-requires
sort_at-requires c =
    let resolved = subst (λ items. IsResolved items c.self.inside.table.sorts c.self.inside.sorts.items c.self.inside.tables.items) c.self.view_is c.self.invariant.resolved in
    let b = base_at c.args.self.now c.self.inside.table.sorts c.self.inside.sorts.items c.self.inside.tables.items c.args.partition resolved c.requires.faultless c.requires.partition in
    let there = sort_stands c.args.self.now c.self.inside.table.sorts c.self.inside.sorts.items c.args.partition b in
    subst (λ l. IsSome (sort_kept c.self.inside.table.sorts l c.args.partition)) (sym c.deref.ensures.value) there

pub returns : goal.returns
returns c =
    let resolved = subst (λ items. IsResolved items c.self.inside.table.sorts c.self.inside.sorts.items c.self.inside.tables.items) c.self.view_is c.self.invariant.resolved in
    let b = base_at c.args.self.now c.self.inside.table.sorts c.self.inside.sorts.items c.self.inside.tables.items c.args.partition resolved c.requires.faultless c.requires.partition in
    is_base_sort c.args.self.now c.self.inside.table.sorts c.self.inside.sorts.items c.args.partition c.sort_at.result.now b (ap (λ l. sort_kept c.self.inside.table.sorts l c.args.partition) (sym c.deref.ensures.value) ∙ c.sort_at.ensures)
