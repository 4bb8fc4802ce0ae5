-- What ids name, as far as they are noted.
use Rattle.std.specs.Prelude.{◌≡◌, ◌≤◌, ◌+◌, ◌*◌, ◌&&◌, ◌||◌, ◌==◌, ℕ, suc, Bool, true, false, List, [], ◌∷◌, ◌++◌, map, Option, Some, None, if◌then◌else◌, nat_lt}
use Rattle.std.specs.List.{Contains, flat_map, slice_get}
use Rattle.std.specs.Str.{bytes_eq}
use Rattle.indexmap.specs.IndexMap.{get_by}
use Rattle.pn_faults.specs.Standing.{IsLeastOf}
use Rattle.pn_faults.specs.declared.fault.Fault.{Fault}
use Rattle.pn_net.specs.Ids.{IdHolder, Role, arc_holder, declaration_holders, holder, place_holder, transition_holder, place, transition, place_reference, transition_reference, other}
use Rattle.pn_net.specs.Links.{IsDuplicateAmong}
use Rattle.pn_objects.specs.declared.object.Place.{Place}
use Rattle.pn_objects.specs.declared.object.Reference.{Reference}
use Rattle.pn_objects.specs.declared.object.Transition.{Transition}
use Rattle.pn_pages.specs.Gathering.{title_holder}
use Rattle.pn_pages.specs.declared.names.First.{First}
use Rattle.pn_pages.specs.declared.names.Names.{Names}
use Rattle.pn_pages.specs.declared.names.Node.{Node}
use Rattle.pn_pages.specs.declared.names.Node.TheVariants as nodes
use Rattle.pn_pages.specs.declared.numbered.Objects.{Objects}

-- what is kept of an id, where it was noted
abbrev pub told_by : Names → List ℕ → Option First
told_by names id = get_by (λ key. bytes_eq id key.now) names.index

abbrev pub is_no_node : Node → Bool
is_no_node (nodes.Place i) = false
is_no_node (nodes.Transition i) = false
is_no_node (nodes.Reference k) = false
is_no_node nodes.Other = true

-- the one stands before the other: at a lower offset, or before something that is no node at the same
abbrev pub comes_earlier : First → First → Bool
comes_earlier one kept = nat_lt one.at kept.at || ((one.at == kept.at) && is_no_node kept.node)

abbrev pub earlier : First → First → First
earlier one kept = if comes_earlier one kept then one else kept

-- the role of the reference of this number, which refers to this id
abbrev pub role_of_reference : Objects → ℕ → List ℕ → Role
role_of_reference o k refers = if nat_lt k o.place_refs then place_reference refers else transition_reference refers

-- an element that has an id is shown by its node
abbrev pub Shows : Objects → Node → IdHolder → Type 0
Shows o (nodes.Place i) h = (p : Place) × (slice_get o.places i ≡ Some p) × (h.id ≡ p.id) × (h.role ≡ place)
Shows o (nodes.Transition i) h = (t : Transition) × (slice_get o.transitions i ≡ Some t) × (h.id ≡ t.id) × (h.role ≡ transition)
Shows o (nodes.Reference k) h = (r : Reference) × (slice_get o.references k ≡ Some r) × (h.id ≡ r.id) × (h.role ≡ role_of_reference o k r.refers)
Shows o nodes.Other h = h.role ≡ other

-- among those at one offset nodes come first
abbrev pub late : Role → ℕ
late place = 0
late transition = 0
late (place_reference refers) = 0
late (transition_reference refers) = 0
late other = 1

-- where an element stands among those that have its id
abbrev pub rank : IdHolder → ℕ
rank h = 2 * h.at + late h.role

-- of these it is the first that has the id
pub record IsFirstHolder (hs : List IdHolder) (id : List ℕ) (h : IdHolder) : Type 0 where
  pub stands : Contains hs h
  pub has_id : h.id ≡ id
  pub is_first : (x : IdHolder) → Contains hs x → x.id ≡ id → rank h ≤ rank x

-- none of these has the id
abbrev pub IsUnknown : List IdHolder → List ℕ → Type 0
IsUnknown hs id = (x : IdHolder) → Contains hs x → x.id ≡ id → ⊥

-- the node shows the first of these that has the id; without a node none has it
abbrev pub FindsNode : Objects → List IdHolder → List ℕ → Option Node → Type 0
FindsNode o hs id None = IsUnknown hs id
FindsNode o hs id (Some node) = (h : IdHolder) × IsFirstHolder hs id h × Shows o node h

-- the element is the first that has the id, and this tells it
pub record KeepsFirst (o : Objects) (hs : List IdHolder) (id : List ℕ) (first : First) : Type 0 where
  pub holder : IdHolder
  pub is_first : IsFirstHolder hs id holder
  pub shown : Shows o first.node holder
  pub at : holder.at ≡ first.at

-- what is kept of an id
abbrev pub IsFirstEntry : Objects → List IdHolder → List ℕ → Option First → Type 0
IsFirstEntry o hs id None = IsUnknown hs id
IsFirstEntry o hs id (Some first) = KeepsFirst o hs id first

-- these elements are noted, and the least of the faults of ids is kept
pub record AreNamed (o : Objects) (hs : List IdHolder) (told : List ℕ → Option First) (least : Option Fault) : Type 0 where
  pub entry : (id : List ℕ) → IsFirstEntry o hs id (told id)
  pub lowest : IsLeastOf (IsDuplicateAmong hs) least

-- behind those that are noted these are noted too
abbrev pub AddsNames : Names → Option Fault → Names → Option Fault → Objects → List IdHolder → Type 0
AddsNames old before new after o more = (hs : List IdHolder) → AreNamed o hs (told_by old) before → AreNamed o (hs ++ more) (told_by new) after

-- the reference of this number
abbrev pub reference_holder : Objects → ℕ → Reference → IdHolder
reference_holder o k r = holder r.id r.at (role_of_reference o k r.refers)

-- references, numbered from this number on
abbrev pub holders_from : Objects → ℕ → List Reference → List IdHolder
holders_from o k [] = []
holders_from o k (r ∷ rs) = reference_holder o k r ∷ holders_from o (suc k) rs

-- all that have an id, where the net has this one
abbrev pub all_holders : List ℕ → ℕ → Objects → List IdHolder
all_holders id offset o =
    holder id offset other ∷ (map title_holder o.titles ++ (flat_map declaration_holders o.declarations
    ++ ((map place_holder o.places ++ (map transition_holder o.transitions ++ holders_from o 0 o.references)) ++ map arc_holder o.arcs)))
