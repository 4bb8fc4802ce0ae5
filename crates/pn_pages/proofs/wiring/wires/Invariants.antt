use Rattle.std.proofs.Common.{◌≡◌, map, take}
use Rattle.pn_pages.specs.Wiring.{wire_of}
use Rattle.pn_pages.proofs.wiring.wires.Given as goal

abbrev pub invariant-loop-end : goal.invariant-loop-end
invariant-loop-end l = l.wires.items ≡ map (wire_of l.place_refs l.goals) (take l.end-index l.ends)
