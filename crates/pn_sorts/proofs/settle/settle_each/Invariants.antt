use Rattle.pn_faults.specs.Standing.{IsLeastOf}
use Rattle.pn_sorts.specs.Settling.{AreSettled, IsKnown}
use Rattle.pn_sorts.proofs.settle.settle_each.Given as goal

abbrev pub invariant-loop-item : goal.invariant-loop-item
invariant-loop-item l = AreSettled l.items l.table.sorts l.item-index l.sorts.items l.tables.items × IsLeastOf (IsKnown l.items l.item-index) l.least
