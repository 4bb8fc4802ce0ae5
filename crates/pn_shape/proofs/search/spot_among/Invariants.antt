use Rattle.std.proofs.Common.{◌≡◌, drop}
use Rattle.pn_shape.specs.Spots.{spot_in}
use Rattle.pn_shape.proofs.search.spot_among.Given as goal

abbrev pub invariant-loop-place : goal.invariant-loop-place
invariant-loop-place l = spot_in l.kind l.name l.place (drop l.place l.slots) ≡ spot_in l.kind l.name 0 l.slots
