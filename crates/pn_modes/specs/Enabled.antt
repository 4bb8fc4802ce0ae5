-- The modes of a transition that are enabled (ISO/IEC 15909-1, high-level nets).
use Rattle.std.specs.Prelude.{ℕ, List}
use Rattle.pn_bag.specs.Counts.{Includes}
use Rattle.pn_marking.specs.Modes.{IsMode, IsPre}
use Rattle.pn_net.specs.Orders.{token_cmp}
use Rattle.pn_net.specs.declared.flat.Flat.{Flat}
use Rattle.pn_net.specs.declared.mode.Mode.{Mode}
use Rattle.pn_net.specs.declared.token.Token.{Token}

-- a mode that takes no more than the marking has
abbrev pub IsEnabledMode : Flat → List (Token × ℕ) → Mode → Type 0
IsEnabledMode f marking m = IsMode f m × ((taken : List (Token × ℕ)) × IsPre f m taken × Includes token_cmp marking taken)
