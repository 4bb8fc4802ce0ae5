use Rattle.std.proofs.Common.{◌≡◌, take}
use Rattle.pn_pages.specs.Following.{rows_of_targets}
use Rattle.pn_pages.proofs.follow.graph_of.Given as goal

abbrev pub invariant-loop-target : goal.invariant-loop-target
invariant-loop-target l = l.graph ≡ rows_of_targets (take l.target-index l.targets)
