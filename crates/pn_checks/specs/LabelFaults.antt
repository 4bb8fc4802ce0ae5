-- Which faults of typing stand in the labels of a flat net, label by label (ISO/IEC 15909-2, labels of high-level nets).
use Rattle.std.specs.Prelude.{◌≡◌, ◌⊎◌, ℕ, List, Bool, true, false, codes, Option, Some}
use Rattle.std.specs.List.{slice_get}
use Rattle.pn_faults.specs.declared.fault.Fault.{Fault}
use Rattle.pn_faults.specs.declared.reason.Reason.TheVariants as reasons
use Rattle.pn_faults.specs.Order.{fault_at}
use Rattle.pn_faults.specs.Walks.{KeepsLeast}
use Rattle.pn_checks.specs.NoValue.{IsNoValueOf}
use Rattle.pn_checks.specs.Sorts.{InSaid}
use Rattle.pn_net.specs.Labels.{IsPlaceSort, said}
use Rattle.pn_net.specs.Typing.{IsTermOver}
use Rattle.pn_net.specs.declared.flat.FlatArc.{FlatArc}
use Rattle.pn_objects.specs.declared.object.Place.{Place}
use Rattle.pn_objects.specs.declared.object.Transition.{Transition}
use Rattle.pn_syntax.specs.declared.declaration.Declaration.{Declaration}
use Rattle.pn_syntax.specs.declared.term.Term.{Term}
use Rattle.pn_syntax.specs.declared.term.TermNode.TheVariants as nodes
use Rattle.pn_terms.specs.declared.term_sort.TermSort.{TermSort}
use Rattle.pn_terms.specs.declared.term_sort.TermSort.TheVariants as terms
use Rattle.pn_terms.specs.Sorts.{HasSort}
use Rattle.pn_terms.specs.Standing.{StandsIn}
use Rattle.pn_terms.specs.Terms.{IsPart}
use Rattle.pn_values.specs.declared.sort.Sort.{Sort}
use Rattle.pn_values.specs.declared.sort.Sort.TheVariants as sorts

-- the sort of truth values
abbrev pub IsTruth : TermSort → Type 0
IsTruth s = s ≡ terms.Basis sorts.Bool

-- the term has a sort, and not one that its label wants
abbrev pub IsOfOther : List Declaration → (TermSort → Type 0) → List ℕ → Term → Fault → Type 0
IsOfOther items Wants label e f = (s : TermSort) × HasSort items e s × (Wants s → ⊥) × (f ≡ fault_at reasons.LabelSort e.at label)

-- the term of a label that wants such a sort has a fault, or another sort
abbrev pub LabelStands : List Declaration → (TermSort → Type 0) → List ℕ → Term → Fault → Type 0
LabelStands items Wants label e f = StandsIn items e f ⊎ IsOfOther items Wants label e f

-- the same of a label at a place
abbrev pub AtPlaceStands : List Declaration → Place → List ℕ → Term → Fault → Type 0
AtPlaceStands items p label e f = StandsIn items e f ⊎ ((sort : Sort) × IsPlaceSort items p sort × IsOfOther items (IsTermOver sort) label e f)

-- a variable stands in a term that has none
abbrev pub IsVariableIn : Term → Fault → Type 0
IsVariableIn e f = (x : Term) × IsPart e x × (name : List ℕ) × (x.node ≡ nodes.Variable name) × (f ≡ fault_at reasons.NotGround x.at name)

-- an initial marking has this fault of typing
abbrev pub MarkingStands : List Declaration → Place → Term → Fault → Type 0
MarkingStands items p e f = (AtPlaceStands items p (codes "hlinitialMarking") e f ⊎ IsVariableIn e f) ⊎ IsNoValueOf items p e f

-- the label of a place has it
abbrev pub PlaceLabels : List Declaration → Place → Fault → Type 0
PlaceLabels items p f = InSaid (MarkingStands items p) (said p.hl_marking) f

-- the label of a transition has it
abbrev pub TransitionLabels : List Declaration → Transition → Fault → Type 0
TransitionLabels items t f = InSaid (LabelStands items IsTruth (codes "condition")) (said t.condition) f

-- an inscription at the place of this number has it
abbrev pub InscriptionStands : List Declaration → List Place → ℕ → Term → Fault → Type 0
InscriptionStands items places i e f = (p : Place) × (slice_get places i ≡ Some p) × AtPlaceStands items p (codes "hlinscription") e f

-- the label of an arc has it
abbrev pub ArcLabels : List Declaration → List Place → FlatArc → Fault → Type 0
ArcLabels items places a f = InSaid (InscriptionStands items places a.place) (said a.arc.inscription) f

-- what is right, or some fault
abbrev pub RightOrFault : Type 0 → (Fault → Type 0) → Bool → Type 0
RightOrFault Right Stands true = Right
RightOrFault Right Stands false = (f : Fault) × Stands f

-- what a look at a term tells: whether it is right, else a fault stands; the least of the faults that stand and of the one so far is kept
pub record IsExamined (Right : Type 0) (Stands : Fault → Type 0) (is_right : Bool) (old new : Option Fault) : Type 0 where
  pub answered : RightOrFault Right Stands is_right
  pub least : KeepsLeast Stands old new
