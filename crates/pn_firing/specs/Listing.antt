-- The modes of a transition that are enabled at the initial marking (ISO/IEC 15909-1, enabling), and why they are not listed.
use Rattle.std.specs.Prelude.{◌≡◌, ℕ, List, Some, None}
use Rattle.std.specs.List.{slice_get}
use Rattle.std.specs.Option.{option_map}
use Rattle.pn_checks.specs.Initial.{IsInitial}
use Rattle.pn_modes.specs.Causes.{HasFewAssignments, HasManyAssignments, IsFirstInfinite}
use Rattle.pn_modes.specs.Listed.{AreModesOf}
use Rattle.pn_names.specs.Names.{variable_name, variables_of}
use Rattle.pn_net.specs.Typed.{transition_named}
use Rattle.pn_net.specs.declared.flat.Flat.{Flat}
use Rattle.pn_net.specs.declared.mode.Mode.{Mode}
use Rattle.pn_net.specs.declared.token.Token.{Token}
use Rattle.pn_firing.specs.declared.listing.ListFault.{ListFault}
use Rattle.pn_firing.specs.declared.listing.ListFault.TheVariants as faults

-- the modes of the transition of this number that are enabled at the initial marking, where it has no more assignments than are listed
pub record AreListedAt (f : Flat) (t : ℕ) (modes : List Mode) : Type 0 where
  pub few : HasFewAssignments f t
  pub initial : List (Token × ℕ)
  pub is_initial : IsInitial f initial
  pub are_modes : AreModesOf f t (Some initial) modes

-- so for the transition of this id
abbrev pub AreListed : Flat → List ℕ → List Mode → Type 0
AreListed f id modes = (t : ℕ) × (transition_named f id ≡ Some t) × AreListedAt f t modes

-- the variable of this number has this id
abbrev pub IsIdOf : Flat → ℕ → List ℕ → Type 0
IsIdOf f v id = option_map variable_name (slice_get (variables_of f.declarations) v) ≡ Some id

-- the first variable of the transition that has an infinite sort has this id
abbrev pub IsInfiniteIn : Flat → ℕ → List ℕ → Type 0
IsInfiniteIn f t id = (v : ℕ) × IsFirstInfinite f t (Some v) × IsIdOf f v id

-- why the modes of the transition of this number are not listed; want of memory tells nothing
abbrev pub IsUnlistedAt : Flat → ℕ → ListFault → Type 0
IsUnlistedAt f t (faults.Memory e) = Unit {0}
IsUnlistedAt f t faults.UnknownTransition = ⊥
IsUnlistedAt f t (faults.InfiniteSort id) = IsInfiniteIn f t id
IsUnlistedAt f t (faults.TooManyAssignments n) = HasManyAssignments f t n

-- so for the transition of this id, where one has it
abbrev pub IsUnlisted : Flat → List ℕ → ListFault → Type 0
IsUnlisted f id (faults.Memory e) = Unit {0}
IsUnlisted f id faults.UnknownTransition = transition_named f id ≡ None
IsUnlisted f id (faults.InfiniteSort x) = (t : ℕ) × (transition_named f id ≡ Some t) × IsInfiniteIn f t x
IsUnlisted f id (faults.TooManyAssignments n) = (t : ℕ) × (transition_named f id ≡ Some t) × HasManyAssignments f t n

-- a fault that tells something
abbrev pub IsReason : ListFault → Type 0
IsReason (faults.Memory e) = ⊥
IsReason faults.UnknownTransition = Unit {0}
IsReason (faults.InfiniteSort id) = Unit {0}
IsReason (faults.TooManyAssignments n) = Unit {0}
