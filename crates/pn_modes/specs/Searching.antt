-- A search for the modes of a transition, as a contract sees it.
use Rattle.std.specs.Prelude.{◌≡◌, ◌⊎◌, ℕ, List, Option, None, Some, option_copied}
use Rattle.std.specs.Cmp.Lexicographic.{slice_cmp}
use Rattle.std.specs.List.{Contains}
use Rattle.std.specs.List.Sorted.{IsStrictlySortedBy}
use Rattle.std.specs.declared.cmp.Ordering.TheVariants.{Less}
use Rattle.pn_marking.specs.Modes.{IsMode}
use Rattle.pn_net.specs.Orders.{mode_cmp}
use Rattle.pn_net.specs.declared.flat.Flat.{Flat}
use Rattle.pn_net.specs.declared.mode.Mode.{Mode}
use Rattle.pn_values.specs.Order.{value_cmp}
use Rattle.pn_values.specs.declared.value.Value.{Value}
use Rattle.pn_modes.specs.Parts.{AreSearchable, IsPlan, carriers_of}
use Rattle.pn_modes.specs.Search.{IsAt, to_come}
use Rattle.pn_modes.specs.declared.cursor.Cursor.{Cursor}
use Rattle.pn_modes.specs.declared.fronts.Fronts.{Fronts}

-- the net, the transition, and the choices of values that are still to come, of which some are modes
pub record Searching : Type 0 where
  pub flat : Flat
  pub transition : ℕ
  pub choices : List (List Value)

-- the mode is still to come
pub record IsToCome (s : Searching) (m : Mode) : Type 0 where
  pub transition : m.transition ≡ s.transition
  pub choice : Contains s.choices m.values
  pub is_mode : IsMode s.flat m

-- the mode was taken from those to come: it was the least of them
pub record TakesFirst (old : Searching) (m : Mode) (new : Searching) : Type 0 where
  pub was : IsToCome old m
  pub others : (x : Mode) → IsToCome old x → (x ≡ m) ⊎ IsToCome new x
  pub behind : (x : Mode) → IsToCome new x → IsToCome old x × (mode_cmp m x ≡ Less)

-- the first mode to come is answered and taken away; none where none is to come
abbrev pub IsAdvanced : Searching → Option Mode → Searching → Type 0
IsAdvanced old None new = ((m : Mode) → IsToCome old m → ⊥) × ((m : Mode) → IsToCome new m → ⊥)
IsAdvanced old (Some m) new = TakesFirst old m new

-- a search under way: its plan, without a marking, and a place among the choices, behind which they ascend
pub record IsUnderWay (fronts : Fronts) (s : Cursor) : Type 0 where
  pub plan : IsPlan fronts.net.now fronts.transition fronts.variables.now fronts.sorts fronts.parts.items fronts.arcs.items
  pub searchable : AreSearchable fronts.net.now fronts.sorts
  pub unmarked : option_copied fronts.marking ≡ None
  pub at : IsAt (carriers_of fronts.net.now fronts.sorts) s
  pub same : s.front.transition ≡ fronts.transition
  pub ascending : IsStrictlySortedBy (slice_cmp value_cmp) (to_come (carriers_of fronts.net.now fronts.sorts) s)
