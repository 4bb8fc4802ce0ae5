use Rattle.pn_sorts.proofs.SettleLemmas.{all_kept}
use Rattle.pn_sorts.proofs.decls.Decls.build.Goals as goal

pub invariant_of-result : goal.invariant_of-result
invariant_of-result c =
    all_kept c.args.items.now c.in_ok-copies.copies c.in_ok-index.index c.in_ok-settled.settled.table c.in_ok-widths.widths.items c.in_ok-variables.variables.items c.in_ok-settled.settled.sorts.items
    c.in_ok-settled.settled.tables.items c.in_ok-settled.settled.fault c.in_ok-copies.ensures c.requires.numbered c.in_ok-index.ensures c.in_ok-widths.ensures c.in_ok-variables.ensures c.in_ok-settled.ensures.table
    c.in_ok-settled.ensures.settled c.in_ok-settled.ensures.least
