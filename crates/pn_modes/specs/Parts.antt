-- The parts of the labels of a transition that a search asks one by one: those of the condition's outermost `and`, and the arcs (ISO/IEC 15909-1).
use Rattle.std.specs.Prelude.{◌≡◌, ◌<◌, ◌^◌, ◌⊎◌, ℕ, Bool, true, false, nat_le, List, [], ◌∷◌, ◌++◌, length, take, map, Option, None, Some}
use Rattle.std.specs.List.{Contains, filter}
use Rattle.pn_carriers.specs.Carriers.{carrier, is_finite}
use Rattle.pn_eval.specs.Assignments.{Covers}
use Rattle.pn_bag.specs.Counts.{Includes}
use Rattle.pn_marking.specs.Known.{IsKnownArc, arcs_with}
use Rattle.pn_marking.specs.Totals.{HasTotals, IsMovedBy}
use Rattle.pn_net.specs.Orders.{token_cmp}
use Rattle.pn_marking.specs.Modes.{IsMode}
use Rattle.pn_names.specs.Names.{widths_of}
use Rattle.pn_net.specs.Typed.{arc_numbers_at, condition_at}
use Rattle.pn_net.specs.declared.flat.Flat.{Flat}
use Rattle.pn_net.specs.declared.mode.Mode.{Mode}
use Rattle.pn_net.specs.declared.token.Token.{Token}
use Rattle.pn_operators.specs.declared.op.Op.{Op}
use Rattle.pn_operators.specs.declared.op.Op.TheVariants as op
use Rattle.pn_syntax.specs.declared.term.Term.{Term}
use Rattle.pn_syntax.specs.declared.term.TermNode.TheOpen as layer
use Rattle.pn_terms.specs.Terms.{Layer, layer_of}
use Rattle.pn_values.specs.declared.sort.Sort.{Sort}
use Rattle.pn_values.specs.declared.value.Value.{Value}
use Rattle.pn_modes.specs.declared.parts.ArcPart.{ArcPart}
use Rattle.pn_modes.specs.declared.parts.Part.{Part}
use Rattle.pn_modes.specs.Enabled.{IsEnabledMode}
use Rattle.pn_modes.specs.Sizes.{HaveSortsAt}

-- a transition with these values
abbrev pub mode_of : ℕ → List Value → Mode
mode_of t given = record { transition = t; values = given }

-- the arguments of an `and`; else the term alone
abbrev pub parts_by : Term → Op → List Term → List Term
parts_by e op.And args = args
parts_by e _ args = e ∷ []

abbrev pub parts_in_layer : Term → Layer → List Term
parts_in_layer e (layer.Apply o args) = parts_by e o args
parts_in_layer e _ = e ∷ []

-- the parts of a condition, which is true where each of them is
abbrev pub parts_of_condition : Term → List Term
parts_of_condition e = parts_in_layer e (layer_of e)

-- the term is part of the condition of a transition
abbrev pub IsPartAt : Flat → ℕ → Term → Type 0
IsPartAt f t e = (condition : Term) × (condition_at f t ≡ Some condition) × Contains (parts_of_condition condition) e

-- a part of the condition of a transition, and how many of its variables it needs
pub record IsConditionPart (f : Flat) (t : ℕ) (vars : List ℕ) (part : Part) : Type 0 where
  pub stands : IsPartAt f t part.term.now
  pub covers : Covers f.declarations (take part.need vars) part.term.now

-- an arc by its number, and how many of the variables its inscription needs
abbrev pub IsArcWith : Flat → List ℕ → ArcPart → Type 0
IsArcWith f vars arc = IsKnownArc f (take arc.need vars) arc.number

-- what a search rests on
pub record IsPlan (f : Flat) (t : ℕ) (vars : List ℕ) (sorts : List Sort) (parts : List Part) (arcs : List ArcPart) : Type 0 where
  pub within : t < length f.transitions
  pub have : HaveSortsAt f t vars sorts
  pub are_parts : (part : Part) → Contains parts part → IsConditionPart f t vars part
  pub numbers : map (λ arc. arc.number) arcs ≡ arc_numbers_at f t
  pub are_arcs : (arc : ArcPart) → Contains arcs arc → IsArcWith f vars arc

-- the numbers of the arcs that need no more variables than these
abbrev pub ready_numbers : ℕ → List ArcPart → List ℕ
ready_numbers count arcs = map (λ arc. arc.number) (filter (λ arc. nat_le arc.need count) arcs)

-- a mode, and where a marking is given one that is enabled there
abbrev pub IsWanted : Flat → Option (List (Token × ℕ)) → Mode → Type 0
IsWanted f None m = IsMode f m
IsWanted f (Some marking) m = IsEnabledMode f marking m

-- the values of each sort
abbrev pub carriers_of : Flat → List Sort → List (List Value)
carriers_of f sorts = map (carrier (widths_of f.declarations)) sorts

-- no assignment that begins so is wanted
abbrev pub IsCut : Flat → ℕ → Option (List (Token × ℕ)) → List Value → Type 0
IsCut f t marking front = (rest : List Value) → IsWanted f marking (mode_of t (front ++ rest)) → ⊥

-- these arcs have a total without a value, or take what the marking that is given has not
abbrev pub AreUnfit : Flat → List ℕ → List Value → List ℕ → Option (List (Token × ℕ)) → Type 0
AreUnfit f known front numbers marking =
    ((into : Bool) × (HasTotals f known front (arcs_with f into numbers) → ⊥))
    ⊎ ((taken m : List (Token × ℕ)) × IsMovedBy f known front (arcs_with f false numbers) taken × (marking ≡ Some m) × (Includes token_cmp m taken → ⊥))

-- sorts that are finite, and small enough to be searched
abbrev pub AreSearchable : Flat → List Sort → Type 0
AreSearchable f sorts = (sort : Sort) → Contains sorts sort → (is_finite sort ≡ true) × (length (carrier (widths_of f.declarations) sort) < 2 ^ 64)
