use Rattle.std.proofs.Common.{◌≡◌, drop}
use Rattle.pn_modes.specs.Causes.{first_with, is_infinite}
use Rattle.pn_modes.proofs.causes.first_infinite.Given as goal

abbrev pub invariant-loop-i : goal.invariant-loop-i
invariant-loop-i l = first_with is_infinite l.vars l.sorts ≡ first_with is_infinite (drop l.i l.vars) (drop l.i l.sorts)
