use Rattle.std.proofs.Common.{◌≡◌, take}
use Rattle.pn_names.specs.Names.{widths_of}
use Rattle.pn_names.proofs.items.widths.Given as goal

abbrev pub invariant-loop-item : goal.invariant-loop-item
invariant-loop-item l = l.widths.items ≡ widths_of (take l.item-index l.items)
