-- Which assignments a search is for, and what it leaves out.
use Rattle.std.specs.Prelude.{◌≡◌, ℕ, Bool, true, false, List, ◌∷◌, ◌++◌, length, Option, None, Some, []}
use Rattle.std.specs.List.{AllByRecursion, Contains}
use Rattle.std.specs.List.Sorted.{IsStrictlySortedBy}
use Rattle.pn_net.specs.declared.mode.Mode.{Mode}
use Rattle.pn_net.specs.Orders.{mode_cmp}
use Rattle.pn_values.specs.declared.value.Value.{Value}
use Rattle.pn_modes.specs.Carriers.{IsChoice}

-- what a front of an assignment of n variables is answered: where the search does not go on, no assignment that begins so is wanted; where it does, and all variables have
-- values, this one is
pub record Prunes (wanted : List Value → Type 0) (n : ℕ) (front : List Value) (goes_on : Bool) : Type 0 where
  pub cut : goes_on ≡ false → (rest : List Value) → wanted (front ++ rest) → ⊥
  pub whole : goes_on ≡ true → length front ≡ n → wanted front

-- none of these is wanted
abbrev pub AreUnwanted : (List Value → Type 0) → List (List Value) → Type 0
AreUnwanted wanted all = AllByRecursion (λ a. wanted a → ⊥) all

-- what came before these, and is left out, was not wanted
pub record Skips (wanted : List Value → Type 0) (old new : List (List Value)) : Type 0 where
  pub skipped : List (List Value)
  pub unwanted : AreUnwanted wanted skipped
  pub is : old ≡ skipped ++ new

-- the first of these that is wanted, as a mode of this transition, and those behind it; none where none is
abbrev pub IsNext : (List Value → Type 0) → ℕ → List (List Value) → Option Mode → List (List Value) → Type 0
IsNext wanted t old None new = AreUnwanted wanted old × (new ≡ [])
IsNext wanted t old (Some m) new = Skips wanted old (m.values ∷ new) × wanted m.values × (m.transition ≡ t)

-- exactly the modes of this transition with a wanted choice of values, ascending
pub record AreAllModes (wanted : List Value → Type 0) (cs : List (List Value)) (t : ℕ) (modes : List Mode) : Type 0 where
  pub ascending : IsStrictlySortedBy mode_cmp modes
  pub only : (m : Mode) → Contains modes m → (m.transition ≡ t) × IsChoice cs m.values × wanted m.values
  pub every : (m : Mode) → m.transition ≡ t → IsChoice cs m.values → wanted m.values → Contains modes m
