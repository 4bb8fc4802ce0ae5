-- The modes of a transition, as a list (ISO/IEC 15909-1, high-level nets).
use Rattle.std.specs.Prelude.{◌≡◌, ℕ, List, Option}
use Rattle.std.specs.List.{Contains}
use Rattle.std.specs.List.Sorted.{IsStrictlySortedBy}
use Rattle.pn_net.specs.Orders.{mode_cmp}
use Rattle.pn_net.specs.declared.flat.Flat.{Flat}
use Rattle.pn_net.specs.declared.mode.Mode.{Mode}
use Rattle.pn_net.specs.declared.token.Token.{Token}
use Rattle.pn_modes.specs.Parts.{IsWanted}

-- all modes of the transition and nothing else, ascending, each once; those alone that are enabled, where a marking is given
pub record AreModesOf (f : Flat) (t : ℕ) (marking : Option (List (Token × ℕ))) (modes : List Mode) : Type 0 where
  pub ascending : IsStrictlySortedBy mode_cmp modes
  pub only : (m : Mode) → Contains modes m → (m.transition ≡ t) × IsWanted f marking m
  pub every : (m : Mode) → m.transition ≡ t → IsWanted f marking m → Contains modes m
