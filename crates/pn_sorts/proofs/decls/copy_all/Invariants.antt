use Rattle.std.proofs.Common.{◌≡◌, take}
use Rattle.pn_sorts.proofs.decls.copy_all.Given as goal

abbrev pub invariant-loop-item : goal.invariant-loop-item
invariant-loop-item l = l.all ≡ take l.item-index l.items
