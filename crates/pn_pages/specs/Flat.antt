-- Arcs of flat nets.
use Rattle.std.specs.Prelude.{◌<◌, length}
use Rattle.pn_net.specs.declared.flat.Flat.{Flat}
use Rattle.pn_net.specs.declared.flat.FlatArc.{FlatArc}

-- the ends of the arc are in range
pub record HasEnds (f : Flat) (a : FlatArc) : Type 0 where
  pub place : a.place < length f.places
  pub transition : a.transition < length f.transitions
