use Rattle.std.proofs.Common.{take}
use Rattle.pn_sorts.specs.Settling.{ListEmptyRange}
use Rattle.pn_sorts.proofs.settle.list_empty_range.Given as goal

abbrev pub invariant-loop-element : goal.invariant-loop-element
invariant-loop-element l = ListEmptyRange (take l.element-index l.elements) → ⊥
