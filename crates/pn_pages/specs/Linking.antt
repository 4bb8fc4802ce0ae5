-- The faults of arcs and of references, one by one, and what is told of them.
use Rattle.std.specs.Prelude.{◌≡◌, ◌⊎◌, ℕ, Bool, true, false, List, Option, None, Some, nat_lt}
use Rattle.std.specs.List.{Contains, slice_get}
use Rattle.pn_net.specs.Ids.{IdHolder, holders_of}
use Rattle.pn_faults.specs.declared.fault.Fault.{Fault}
use Rattle.pn_faults.specs.declared.reason.Reason.TheVariants as reasons
use Rattle.pn_faults.specs.Order.{fault_at}
use Rattle.pn_faults.specs.Walks.{KeepsLeast}
use Rattle.pn_net.specs.Links.{IsOnSide, LeadsOn, NamesNoNode, Side, places, transitions}
use Rattle.pn_objects.specs.declared.net.Net.{Net}
use Rattle.pn_objects.specs.declared.object.Arc.{Arc}
use Rattle.pn_objects.specs.declared.object.Reference.{Reference}
use Rattle.pn_pages.specs.Naming.{FindsNode}
use Rattle.pn_pages.specs.declared.ends.Ends.{Ends}
use Rattle.pn_pages.specs.declared.follow.Goal.{Goal}
use Rattle.pn_pages.specs.declared.names.Node.{Node}
use Rattle.pn_pages.specs.declared.names.Node.TheVariants as nodes
use Rattle.pn_pages.specs.declared.numbered.Objects.{Objects}

-- no two elements of the net have one id and one offset, as in each document
abbrev pub AreApart : Net → Type 0
AreApart n = (x y : IdHolder) → Contains (holders_of n) x → Contains (holders_of n) y → x.id ≡ y.id → x.at ≡ y.at → x ≡ y

-- the side of places, or the other one
abbrev pub side_by : Bool → Side
side_by true = places
side_by false = transitions

-- the side of the reference of this number: the first references, so many, are to places
abbrev pub reference_side : ℕ → ℕ → Side
reference_side place_refs k = side_by (nat_lt k place_refs)

-- the side of a node: the first references, so many, are to places
abbrev pub node_side : ℕ → Option Node → Option Side
node_side place_refs None = None
node_side place_refs (Some (nodes.Place i)) = Some places
node_side place_refs (Some (nodes.Transition i)) = Some transitions
node_side place_refs (Some (nodes.Reference k)) = Some (reference_side place_refs k)
node_side place_refs (Some nodes.Other) = None

abbrev pub is_of_places : Side → Bool
is_of_places places = true
is_of_places transitions = false

-- the arc has this fault: of an arc whose ends are both no nodes the source is told
pub data IsArcFault (n : Net) (a : Arc) : Fault → Type 0 where
  source : (f : Fault) → NamesNoNode n a.source → f ≡ fault_at reasons.UnknownEnd a.at a.source → IsArcFault n a f
  target : (f : Fault) (side : Side) → IsOnSide n a.source side → NamesNoNode n a.target → f ≡ fault_at reasons.UnknownEnd a.at a.target → IsArcFault n a f
  wrong : (f : Fault) (side : Side) → IsOnSide n a.source side → IsOnSide n a.target side → f ≡ fault_at reasons.WrongEnd a.at a.id → IsArcFault n a f

-- the reference, which is of this side, refers to no node, or to one of the other side
pub data IsTargetFault (n : Net) (side : Side) (r : Reference) : Fault → Type 0 where
  unknown : (f : Fault) → NamesNoNode n r.refers → f ≡ fault_at reasons.UnknownEnd r.at r.refers → IsTargetFault n side r f
  wrong : (f : Fault) (other : Side) → IsOnSide n r.refers other → (other ≡ side → ⊥) → f ≡ fault_at reasons.WrongEnd r.at r.id → IsTargetFault n side r f

-- following references from this one never ends
abbrev pub IsEndless : Net → Reference → Type 0
IsEndless n r = (steps : ℕ) → LeadsOn n steps r.refers

abbrev pub IsEndlessFault : Net → Reference → Fault → Type 0
IsEndlessFault n r f = IsEndless n r × (f ≡ fault_at reasons.ReferenceCycle r.at r.id)

-- the reference, which is of this side, has this fault
abbrev pub IsReferenceFault : Net → Side → Reference → Fault → Type 0
IsReferenceFault n side r f = IsTargetFault n side r f ⊎ IsEndlessFault n r f

-- one of these references has this fault: the first of them, so many, are to places
abbrev pub IsFaultOfReferences : Net → ℕ → List Reference → Fault → Type 0
IsFaultOfReferences n place_refs rs f = (k : ℕ) × (r : Reference) × (slice_get rs k ≡ Some r) × IsReferenceFault n (reference_side place_refs k) r f

-- it is told rightly whether following references from this one never ends; that it does is right where no two elements have one id and one offset
pub record TellsEndless (n : Net) (r : Reference) (endless : Bool) : Type 0 where
  pub leads : endless ≡ true → IsEndless n r
  pub ends : AreApart n → endless ≡ false → IsEndless n r → ⊥

-- of each reference it is known what it refers to, and whether following it never ends
abbrev pub AreFollowed : Net → Objects → List Reference → List (Option Node) → List Goal → Type 0
AreFollowed n o rs targets goals = (k : ℕ) (r : Reference) (target : Option Node) (goal : Goal) → slice_get rs k ≡ Some r → slice_get targets k ≡ Some target → slice_get goals k ≡ Some goal
    → FindsNode o (holders_of n) r.refers target × TellsEndless n r goal.endless

-- what both ends of an arc name is found
abbrev pub AreEnds : Objects → List IdHolder → Arc → Ends → Type 0
AreEnds o hs a e = FindsNode o hs a.source e.source × FindsNode o hs a.target e.target

-- each fault that is told is one of these, or was told before, and one that was told stays; and the least so far is kept, where no two elements have one id and one offset
pub record AddsFaults (n : Net) (P : Fault → Type 0) (old new : Option Fault) : Type 0 where
  pub told : (f : Fault) → new ≡ Some f → (old ≡ Some f) ⊎ P f
  pub kept : new ≡ None → old ≡ None
  pub keeps : AreApart n → KeepsLeast P old new

-- the faults of an arc, where it has some
abbrev pub TellsArc : Net → Arc → Option Fault → Option Fault → Type 0
TellsArc n a = AddsFaults n (IsArcFault n a)
