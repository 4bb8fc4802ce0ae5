-- Where arcs end: at the places and transitions that are reached by following references (ISO/IEC 15909-2, references).
use Rattle.std.specs.Prelude.{◌≡◌, ◌⊎◌, ℕ, List, Option, Some}
use Rattle.std.specs.List.{slice_get}
use Rattle.std.specs.Option.{option_map}
use Rattle.pn_objects.specs.declared.net.Net.{Net}
use Rattle.pn_objects.specs.declared.object.Arc.{Arc}
use Rattle.pn_objects.specs.declared.object.Place.{Place}
use Rattle.pn_objects.specs.declared.object.Reference.{Reference}
use Rattle.pn_objects.specs.declared.object.Transition.{Transition}
use Rattle.pn_net.specs.Links.{IsReference}
use Rattle.pn_net.specs.Objects.{net_places, net_transitions}

-- a place or a transition, by its number
pub data End : Type 0 where
  place : ℕ → End
  transition : ℕ → End

-- from the id this place or transition is reached by following references. Where no fault of ids and links stands there is one at most, and one from each end of an arc
pub data ReachesEnd (n : Net) : List ℕ → End → Type 0 where
  at_place : (id : List ℕ) (end : End) (i : ℕ) (p : Place) → slice_get (net_places n) i ≡ Some p → p.id ≡ id → end ≡ place i → ReachesEnd n id end
  at_transition : (id : List ℕ) (end : End) (i : ℕ) (t : Transition) → slice_get (net_transitions n) i ≡ Some t → t.id ≡ id → end ≡ transition i → ReachesEnd n id end
  by_reference : (id : List ℕ) (end : End) (r : Reference) → IsReference n r → r.id ≡ id → ReachesEnd n r.refers end → ReachesEnd n id end

-- the id of a place or transition
abbrev pub id_at : Net → End → Option (List ℕ)
id_at n (place i) = option_map (λ p. p.id) (slice_get (net_places n) i)
id_at n (transition i) = option_map (λ t. t.id) (slice_get (net_transitions n) i)

-- from the first id the place or transition is reached that has the second
abbrev pub Reaches : Net → List ℕ → List ℕ → Type 0
Reaches n from to = (end : End) × ReachesEnd n from end × (id_at n end ≡ Some to)

-- the place at one end of an arc
abbrev pub IsPlaceOfArc : Net → Arc → Place → Type 0
IsPlaceOfArc n a p = (i : ℕ) × (slice_get (net_places n) i ≡ Some p) × (ReachesEnd n a.source (place i) ⊎ ReachesEnd n a.target (place i))
