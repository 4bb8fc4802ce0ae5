use Rattle.std.proofs.Common.{◌≡◌, take}
use Rattle.pn_modes.specs.Parts.{ready_numbers}
use Rattle.pn_modes.proofs.fronts.ready.Given as goal

abbrev pub invariant-loop-arc : goal.invariant-loop-arc
invariant-loop-arc l = l.numbers.items ≡ ready_numbers l.count (take l.arc-index l.arcs)
