-- Arcs by their numbers.
use Rattle.std.specs.Prelude.{◌≡◌, ℕ, Bool, List, Some, IfSome}
use Rattle.std.specs.List.{Contains, filter, filter_map, slice_get}
use Rattle.pn_eval.specs.Assignments.{Covers}
use Rattle.pn_net.specs.Labels.{said}
use Rattle.pn_net.specs.declared.flat.Flat.{Flat}
use Rattle.pn_net.specs.declared.flat.FlatArc.{FlatArc}
use Rattle.pn_marking.specs.Totals.{leads}

-- the arcs of these numbers that lead in one direction
abbrev pub arcs_with : Flat → Bool → List ℕ → List FlatArc
arcs_with f into numbers = filter (leads into) (filter_map (slice_get f.arcs) numbers)

-- there is an arc of this number, and these variables are all that stand in its inscription
abbrev pub IsKnownArc : Flat → List ℕ → ℕ → Type 0
IsKnownArc f vars n = (a : FlatArc) × (slice_get f.arcs n ≡ Some a) × IfSome (said a.arc.inscription) (Covers f.declarations vars)

abbrev pub AreKnown : Flat → List ℕ → List ℕ → Type 0
AreKnown f vars numbers = (n : ℕ) → Contains numbers n → IsKnownArc f vars n
