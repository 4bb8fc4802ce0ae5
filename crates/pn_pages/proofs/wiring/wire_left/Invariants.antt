use Rattle.std.proofs.Common.{◌≡◌, ◌+◌, ◌++◌, drop, length, reverse}
use Rattle.pn_pages.specs.Wiring.{flat_arcs}
use Rattle.pn_pages.proofs.wiring.wire_left.Given as goal

abbrev pub decreases-loop-arc : goal.decreases-loop-arc
decreases-loop-arc l = length l.left

abbrev pub invariant-loop-arc : goal.invariant-loop-arc
invariant-loop-arc l = (length l.left + l.i ≡ length l.wires)
    × (l.all ++ flat_arcs l.places l.transitions (reverse l.left) (drop l.i l.wires) ≡ l.initial.all ++ flat_arcs l.places l.transitions (reverse l.initial.left) l.wires)
