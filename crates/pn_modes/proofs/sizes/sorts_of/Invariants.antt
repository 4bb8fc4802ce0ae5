use Rattle.std.proofs.Common.{take}
use Rattle.std.specs.List.{AllZip}
use Rattle.pn_sorts.specs.Lookups.{IsVariableSort}
use Rattle.pn_modes.proofs.sizes.sorts_of.Given as goal

abbrev pub invariant-loop-v : goal.invariant-loop-v
invariant-loop-v l = AllZip (IsVariableSort l.decls) (take l.v-index l.vars) l.sorts
