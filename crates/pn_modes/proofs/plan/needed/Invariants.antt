use Rattle.std.proofs.Common.{ℕ, take}
use Rattle.std.specs.List.{Contains}
use Rattle.pn_modes.proofs.plan.needed.Given as goal

abbrev pub invariant-loop-v : goal.invariant-loop-v
invariant-loop-v l = (v : ℕ) → Contains (take l.v-index l.found) v → Contains (take l.need l.vars) v
