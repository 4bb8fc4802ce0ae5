-- Modes of transitions (ISO/IEC 15909-1, high-level nets).
use Rattle.std.specs.Prelude.{ℕ, ◌<◌, true, false, List, length, Option, None, Some}
use Rattle.pn_eval.specs.Assignments.{IsAssignment}
use Rattle.pn_eval.specs.Values.{HasValue}
use Rattle.pn_net.specs.Typed.{AreVariablesAt, condition_at}
use Rattle.pn_net.specs.declared.flat.Flat.{Flat}
use Rattle.pn_net.specs.declared.mode.Mode.{Mode}
use Rattle.pn_net.specs.declared.token.Token.{Token}
use Rattle.pn_operations.specs.declared.outcome.Outcome.TheVariants as outcomes
use Rattle.pn_syntax.specs.declared.declaration.Declaration.{Declaration}
use Rattle.pn_syntax.specs.declared.term.Term.{Term}
use Rattle.pn_values.specs.declared.value.Value.{Value}
use Rattle.pn_values.specs.declared.value.Value.TheVariants as values
use Rattle.pn_marking.specs.Totals.{IsMoved}

-- a transition, with one value of its sort for each of its variables, which are these
pub record IsAssigned (f : Flat) (mode : Mode) (vars : List ℕ) : Type 0 where
  pub within : mode.transition < length f.transitions
  pub variables : AreVariablesAt f mode.transition vars
  pub assignment : IsAssignment f.declarations vars mode.values

-- a condition has the value true, or is missing
abbrev pub HoldsCondition : List Declaration → List ℕ → List Value → Option Term → Type 0
HoldsCondition items vars given None = Unit {0}
HoldsCondition items vars given (Some e) = HasValue items vars given e (outcomes.Value (values.Bool true))

-- a mode, where these are the transition's variables: its condition holds, and all its totals have values
pub record IsModeBy (f : Flat) (mode : Mode) (vars : List ℕ) : Type 0 where
  pub assigned : IsAssigned f mode vars
  pub condition : HoldsCondition f.declarations vars mode.values (condition_at f mode.transition)
  pub takes : (m : List (Token × ℕ)) × IsMoved f mode.transition false vars mode.values m
  pub puts : (m : List (Token × ℕ)) × IsMoved f mode.transition true vars mode.values m

-- a mode of the net
abbrev pub IsMode : Flat → Mode → Type 0
IsMode f mode = (vars : List ℕ) × IsModeBy f mode vars

-- what a mode takes from the places before its transition
abbrev pub IsPre : Flat → Mode → List (Token × ℕ) → Type 0
IsPre f mode m = (vars : List ℕ) × AreVariablesAt f mode.transition vars × IsMoved f mode.transition false vars mode.values m

-- what a mode puts on the places behind its transition
abbrev pub IsPost : Flat → Mode → List (Token × ℕ) → Type 0
IsPost f mode m = (vars : List ℕ) × AreVariablesAt f mode.transition vars × IsMoved f mode.transition true vars mode.values m
