use Rattle.std.proofs.Common.{ap, refl, sym, ◌∙◌, subst}
use Rattle.pn_names.specs.Names.{at_of, id_of}
use Rattle.pn_resolve.specs.Standing.{base_of, elements_of}
use Rattle.pn_sorts.specs.Kept.{asked_of, sort_of_kept}
use Rattle.pn_sorts.specs.Settling.{IsTableEntry}
use Rattle.pn_sorts.proofs.SettleLemmas.{IsPartitionOf, entry_of, partition_keeps, partition_table, same_some}
use Rattle.pn_sorts.proofs.settle.settle_item.Goals as goal

pub returns-in_ok-entry-in-Variable-clause-sort : goal.returns-in_ok-entry-in-Variable-clause-sort
returns-in_ok-entry-in-Variable-clause-sort c e has =
    let is = ap asked_of c.in-Variable.is in
    entry_of c.args.items.now c.args.item.now e c.in-Variable.sort (sort_of_kept c.args.table.now.sorts c.in_ok-entry-in-Variable.field-0) c.requires.there is has (c.in_ok-entry-in-Variable.ensures c.args.items.now c.requires.table)

pub returns-in_ok-parts-in-Partition-clause-sort : goal.returns-in_ok-parts-in-Partition-clause-sort
returns-in_ok-parts-in-Partition-clause-sort c e has =
    let is = ap asked_of c.in-Partition.is in
    entry_of c.args.items.now c.args.item.now e c.in-Partition.sort (sort_of_kept c.args.table.now.sorts c.in_ok-base-in-Partition.base) c.requires.there is has (c.in_ok-base-in-Partition.ensures c.args.items.now c.requires.table)

pub returns-in_ok-parts-in-Partition-clause-table : goal.returns-in_ok-parts-in-Partition-clause-table
returns-in_ok-parts-in-Partition-clause-table c e has =
    let is : IsPartitionOf c.args.item.now c.in-Partition.sort c.as_slice.result.now c.as_str.result.now c.in-Partition.at =
    record { base = ap base_of c.in-Partition.is; parts = ap elements_of c.in-Partition.is ∙ sym c.as_slice.ensures; named = ap id_of c.in-Partition.is ∙ sym c.as_str.ensures; stands = ap at_of c.in-Partition.is } in
    let entry = entry_of c.args.items.now c.args.item.now c.in-Partition.sort c.in-Partition.sort (sort_of_kept c.args.table.now.sorts c.in_ok-base-in-Partition.base) c.requires.there (ap asked_of c.in-Partition.is) (ap asked_of c.in-Partition.is) (c.in_ok-base-in-Partition.ensures c.args.items.now c.requires.table) in
    subst (λ x. IsTableEntry c.args.items.now x (elements_of c.args.item.now) c.in_ok-parts-in-Partition.parts) (same_some c.in-Partition.sort e (sym (ap base_of c.in-Partition.is) ∙ has))
    (partition_table c.args.items.now c.args.item.now c.in-Partition.sort c.as_slice.result.now c.as_str.result.now c.in-Partition.at (sort_of_kept c.args.table.now.sorts c.in_ok-base-in-Partition.base) c.in_ok-parts-in-Partition.parts is c.requires.there entry
    c.in_ok-parts-in-Partition.ensures.table)

pub returns-in_ok-parts-in-Partition-clause-least : goal.returns-in_ok-parts-in-Partition-clause-least
returns-in_ok-parts-in-Partition-clause-least c _ =
    let is : IsPartitionOf c.args.item.now c.in-Partition.sort c.as_slice.result.now c.as_str.result.now c.in-Partition.at =
    record { base = ap base_of c.in-Partition.is; parts = ap elements_of c.in-Partition.is ∙ sym c.as_slice.ensures; named = ap id_of c.in-Partition.is ∙ sym c.as_str.ensures; stands = ap at_of c.in-Partition.is } in
    partition_keeps c.args.items.now c.args.item.now c.in-Partition.sort c.as_slice.result.now c.as_str.result.now c.in-Partition.at c.args.least.now c.settle_partition.new.least is (c.in_ok-parts-in-Partition.ensures.least refl)
