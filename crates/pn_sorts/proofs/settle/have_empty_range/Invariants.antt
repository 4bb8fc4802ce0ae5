use Rattle.std.proofs.Common.{Contains, take}
use Rattle.pn_resolve.specs.Standing.{HasEmptyRange}
use Rattle.pn_syntax.specs.declared.declaration.ConstExpr.{ConstExpr}
use Rattle.pn_sorts.proofs.settle.have_empty_range.Given as goal

abbrev pub invariant-loop-value : goal.invariant-loop-value
invariant-loop-value l = (c : ConstExpr) → Contains (take l.value-index l.values) c → HasEmptyRange c → ⊥
