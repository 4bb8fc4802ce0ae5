use Rattle.std.proofs.Common.{take}
use Rattle.std.specs.List.{AllByRecursion}
use Rattle.pn_mode_text.proofs.VariableLemmas.{HasASort}
use Rattle.pn_mode_text.proofs.modes.have_sorts.Given as goal

abbrev pub invariant-loop-i : goal.invariant-loop-i
invariant-loop-i l = AllByRecursion (HasASort l.decls) (take l.i l.vars)
