-- Which faults of sorts stand in a term, and what is known while they are looked for.
use Rattle.std.specs.Prelude.{◌≡◌, ◌⊎◌, ℕ, ℤ, List, Option, None, Some, codes, true, false, int_lt}
use Rattle.pn_faults.specs.declared.fault.Fault.{Fault}
use Rattle.pn_faults.specs.declared.reason.Reason.TheVariants as reasons
use Rattle.pn_faults.specs.Order.{comes_before, fault_at}
use Rattle.pn_net.specs.Labels.{said}
use Rattle.pn_net.specs.declared.flat.FlatArc.{FlatArc}
use Rattle.pn_objects.specs.declared.object.Place.{Place}
use Rattle.pn_objects.specs.declared.object.Transition.{Transition}
use Rattle.pn_resolve.specs.Standing.{StandsInSort}
use Rattle.pn_sorts.specs.Standing.{Stands}
use Rattle.pn_syntax.specs.declared.declaration.Declaration.{Declaration}
use Rattle.pn_syntax.specs.declared.term.Term.{Term}
use Rattle.pn_syntax.specs.declared.term.TermNode.TheOpen as layer
use Rattle.pn_terms.specs.Terms.{IsPart, Layer, layer_of}

-- a range at this offset is empty
abbrev pub IsEmptyRangeAt : ℤ → ℤ → ℕ → Fault → Type 0
IsEmptyRangeAt start end at f = (int_lt end start ≡ true) × (f ≡ fault_at reasons.EmptyRange at (codes "finiteintrange"))

-- the sort that a layer at this offset writes has this fault, or the range of the constant there is empty
abbrev pub SortsStandAt : List Declaration → Layer → ℕ → Fault → Type 0
SortsStandAt items (layer.Variable name) at f = ⊥
SortsStandAt items (layer.UserOp name) at f = ⊥
SortsStandAt items (layer.Bool truth) at f = ⊥
SortsStandAt items (layer.Number value sort) at f = ⊥
SortsStandAt items (layer.RangeConst value start end) at f = IsEmptyRangeAt start end at f
SortsStandAt items (layer.Text text) at f = ⊥
SortsStandAt items (layer.All e) at f = StandsInSort items e f
SortsStandAt items (layer.Empty e) at f = StandsInSort items e f
SortsStandAt items (layer.EmptyList e) at f = StandsInSort items e f
SortsStandAt items (layer.PartitionOf name arg) at f = ⊥
SortsStandAt items (layer.Apply op args) at f = ⊥

-- a sort that the term or a term in it writes has this fault, or the range of a constant in it is empty
abbrev pub SortsStandIn : List Declaration → Term → Fault → Type 0
SortsStandIn items e f = (x : Term) × IsPart e x × SortsStandAt items (layer_of x) x.at f

-- none of the faults of the declarations comes before the one that is kept
abbrev pub KnowsDeclared : List Declaration → Option Fault → Type 0
KnowsDeclared items kept = (f : Fault) → Stands items f → (g : Fault) × (kept ≡ Some g) × (comes_before f g ≡ false)

-- where something is said, it has this fault
abbrev pub InSaid : {T : Type 0} → (T → Fault → Type 0) → Option T → Fault → Type 0
InSaid P None f = ⊥
InSaid P (Some e) f = P e f

-- the type of a place or its initial marking has this fault
abbrev pub PlaceStands : List Declaration → Place → Fault → Type 0
PlaceStands items p f = InSaid (StandsInSort items) (said p.sort) f ⊎ InSaid (SortsStandIn items) (said p.hl_marking) f

-- the condition of a transition has this fault
abbrev pub TransitionStands : List Declaration → Transition → Fault → Type 0
TransitionStands items t f = InSaid (SortsStandIn items) (said t.condition) f

-- the inscription of an arc has this fault
abbrev pub ArcStands : List Declaration → FlatArc → Fault → Type 0
ArcStands items a f = InSaid (SortsStandIn items) (said a.arc.inscription) f
