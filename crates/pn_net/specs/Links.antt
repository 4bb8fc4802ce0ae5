-- Which faults of ids and links stand in a net (ISO/IEC 15909-2, arcs and references, in this project's profile).
use Rattle.std.specs.Prelude.{◌≡◌, ◌⊎◌, ℕ, zero, suc, ◌≤◌, List, Option, Some, None}
use Rattle.std.specs.List.{Contains, slice_get}
use Rattle.pn_faults.specs.declared.fault.Fault.{Fault}
use Rattle.pn_faults.specs.declared.reason.Reason.TheVariants as reasons
use Rattle.pn_faults.specs.Order.{fault_at}
use Rattle.pn_objects.specs.declared.net.Net.{Net}
use Rattle.pn_objects.specs.declared.object.Arc.{Arc}
use Rattle.pn_objects.specs.declared.object.Reference.{Reference}
use Rattle.pn_net.specs.Ids.{IdHolder, NamesHolder, Role, holders_of, place, transition, place_reference, transition_reference, other}
use Rattle.pn_net.specs.Objects.{net_arcs, net_place_references, net_transition_references}

-- the two sides between which arcs lead
pub data Side : Type 0 where
  places : Side
  transitions : Side

-- the side of a node: a place or a reference to one, a transition or a reference to one
abbrev pub side_of : Role → Option Side
side_of place = Some places
side_of transition = Some transitions
side_of (place_reference refers) = Some places
side_of (transition_reference refers) = Some transitions
side_of other = None

-- the id to which a reference refers
abbrev pub refers_of : Role → Option (List ℕ)
refers_of place = None
refers_of transition = None
refers_of (place_reference refers) = Some refers
refers_of (transition_reference refers) = Some refers
refers_of other = None

-- the id names a node of this side
abbrev pub IsOnSide : Net → List ℕ → Side → Type 0
IsOnSide n id side = (h : IdHolder) × NamesHolder n id h × (side_of h.role ≡ Some side)

-- the id names no node
abbrev pub NamesNoNode : Net → List ℕ → Type 0
NamesNoNode n id = (side : Side) → IsOnSide n id side → ⊥

-- a reference of a net, to a place or to a transition
abbrev pub IsReference : Net → Reference → Type 0
IsReference n r = Contains (net_place_references n) r ⊎ Contains (net_transition_references n) r

-- another of these before it has its id; offsets in a document differ, so one of the two is before the other
pub record IsDuplicateAmong (holders : List IdHolder) (f : Fault) : Type 0 where
  pub one : ℕ
  pub another : ℕ
  pub first : IdHolder
  pub second : IdHolder
  pub has_first : slice_get holders one ≡ Some first
  pub has_second : slice_get holders another ≡ Some second
  pub differ : one ≡ another → ⊥
  pub before : first.at ≤ second.at
  pub same : first.id ≡ second.id
  pub is : f ≡ fault_at reasons.DuplicateId second.at second.id

-- another element before it has its id
abbrev pub IsDuplicateId : Net → Fault → Type 0
IsDuplicateId n f = IsDuplicateAmong (holders_of n) f

-- an end of an arc, or what a reference refers to, is no node; of an arc whose ends are both none the source is told
pub data IsUnknownEnd (n : Net) : Fault → Type 0 where
  source : (f : Fault) (a : Arc) → Contains (net_arcs n) a → NamesNoNode n a.source → f ≡ fault_at reasons.UnknownEnd a.at a.source → IsUnknownEnd n f
  target : (f : Fault) (a : Arc) (side : Side) → Contains (net_arcs n) a → IsOnSide n a.source side → NamesNoNode n a.target → f ≡ fault_at reasons.UnknownEnd a.at a.target → IsUnknownEnd n f
  reference : (f : Fault) (r : Reference) → IsReference n r → NamesNoNode n r.refers → f ≡ fault_at reasons.UnknownEnd r.at r.refers → IsUnknownEnd n f

-- both ends of an arc are of one side, or a reference refers to a node of the other side
pub data IsWrongEnd (n : Net) : Fault → Type 0 where
  arc : (f : Fault) (a : Arc) (side : Side) → Contains (net_arcs n) a → IsOnSide n a.source side → IsOnSide n a.target side → f ≡ fault_at reasons.WrongEnd a.at a.id → IsWrongEnd n f
  to_place : (f : Fault) (r : Reference) → Contains (net_place_references n) r → IsOnSide n r.refers transitions → f ≡ fault_at reasons.WrongEnd r.at r.id → IsWrongEnd n f
  to_transition : (f : Fault) (r : Reference) → Contains (net_transition_references n) r → IsOnSide n r.refers places → f ≡ fault_at reasons.WrongEnd r.at r.id → IsWrongEnd n f

-- from the id so many references can be followed, one behind another, and the last of them leads to a reference again
abbrev pub LeadsOn : Net → ℕ → List ℕ → Type 0
LeadsOn n zero id = (h : IdHolder) × (refers : List ℕ) × NamesHolder n id h × (refers_of h.role ≡ Some refers)
LeadsOn n (suc more) id = (h : IdHolder) × (refers : List ℕ) × NamesHolder n id h × (refers_of h.role ≡ Some refers) × LeadsOn n more refers

-- following references from this one never ends
pub record IsReferenceCycle (n : Net) (f : Fault) : Type 0 where
  pub reference : Reference
  pub stands : IsReference n reference
  pub is_endless : (steps : ℕ) → LeadsOn n steps reference.refers
  pub is : f ≡ fault_at reasons.ReferenceCycle reference.at reference.id

-- the net has this fault of ids and links
pub data StandsInLinks (n : Net) : Fault → Type 0 where
  duplicate_id : (f : Fault) → IsDuplicateId n f → StandsInLinks n f
  unknown_end : (f : Fault) → IsUnknownEnd n f → StandsInLinks n f
  wrong_end : (f : Fault) → IsWrongEnd n f → StandsInLinks n f
  reference_cycle : (f : Fault) → IsReferenceCycle n f → StandsInLinks n f
