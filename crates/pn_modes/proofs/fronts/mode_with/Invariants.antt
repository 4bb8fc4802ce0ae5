use Rattle.std.proofs.Common.{◌≡◌, take}
use Rattle.pn_modes.proofs.fronts.mode_with.Given as goal

abbrev pub invariant-loop-value : goal.invariant-loop-value
invariant-loop-value l = l.values ≡ take l.value-index l.front
