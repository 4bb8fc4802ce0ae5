-- Modes with their net.
use Rattle.std.specs.Prelude.{List}
use Rattle.pn_net.specs.declared.flat.Flat.{Flat}
use Rattle.pn_net.specs.declared.mode.Mode.{Mode}

-- a flat net, and some of its modes
pub record ModesOfNet : Type 0 where
  pub flat : Flat
  pub modes : List Mode
