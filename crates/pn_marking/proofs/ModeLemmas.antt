-- Which transitions with values are modes.
use Rattle.std.proofs.Common.{◌≡◌, ◌↔◌, ℕ, List, Bool, true, false, Option, None, Some, IfSome, IsTrue, is_some, refl, sym, ◌∙◌, subst}
use Rattle.std.proofs.lemmas.Bool.{false≢true}
use Rattle.pn_eval.specs.Assignments.{IsAssignment}
use Rattle.pn_net.specs.Typed.{AreVariablesAt, condition_at}
use Rattle.pn_net.specs.declared.flat.Flat.{Flat}
use Rattle.pn_net.specs.declared.mode.Mode.{Mode}
use Rattle.pn_net.specs.declared.token.Token.{Token}
use Rattle.pn_values.specs.declared.value.Value.{Value}
use Rattle.pn_marking.specs.Modes.{HoldsCondition, IsAssigned, IsMode, IsModeBy}
use Rattle.pn_marking.specs.Totals.{HasTotals, IsMoved, arcs_at}
use Rattle.pn_marking.proofs.OnceLemmas.{variables_once}
use Rattle.pn_marking.proofs.TotalLemmas.{has_totals}

module _ (f : Flat) (mode : Mode) (vs : List ℕ) (are : AreVariablesAt f mode.transition vs) (given : List Value) (same : given ≡ mode.values) where
  one_list : (vars : List ℕ) → AreVariablesAt f mode.transition vars → vars ≡ vs
  one_list vars also = variables_once f mode.transition vars vs also are

  -- what holds of the variables and values of a mode holds of these
  here : (P : List ℕ → List Value → Type 0) (vars : List ℕ) → AreVariablesAt f mode.transition vars → P vars mode.values → P vs given
  here P vars also is = subst (P vs) (sym same) (subst (λ ws. P ws mode.values) (one_list vars also) is)

  there : (P : List ℕ → List Value → Type 0) (vars : List ℕ) → AreVariablesAt f mode.transition vars → P vs given → P vars mode.values
  there P vars also is = subst (λ ws. P ws mode.values) (sym (one_list vars also)) (subst (P vs) same is)

  pub assigned_here : ((vars : List ℕ) × IsAssigned f mode vars) → IsAssignment f.declarations vs given
  assigned_here (vars, is) = here (IsAssignment f.declarations) vars is.variables is.assignment

  moves : (into : Bool) (vars : List ℕ) → IsModeBy f mode vars → (m : List (Token × ℕ)) × IsMoved f mode.transition into vars mode.values m
  moves false vars is = is.takes
  moves true vars is = is.puts

  totals_here : (into : Bool) (vars : List ℕ) → AreVariablesAt f mode.transition vars → ((m : List (Token × ℕ)) × IsMoved f mode.transition into vars mode.values m) → HasTotals f vs given (arcs_at f mode.transition into)
  totals_here into vars also (m, moved) = has_totals f vs given (arcs_at f mode.transition into) m (here (λ ws gs. IsMoved f mode.transition into ws gs m) vars also moved)

  -- the totals of a mode have values
  pub mode_has_totals : (into : Bool) → IsMode f mode → HasTotals f vs given (arcs_at f mode.transition into)
  mode_has_totals into (vars, is) = totals_here into vars is.assigned.variables (moves into vars is)

  pub moved_there : (into : Bool) (m : List (Token × ℕ)) → IsMode f mode → IsMoved f mode.transition into vs given m → IsMoved f mode.transition into vs mode.values m
  moved_there into m mode_is moved = subst (λ gs. IsMoved f mode.transition into vs gs m) same moved

  -- whether there are totals
  pub totals_told : (into r : Bool) (o : Option (List (Token × ℕ))) → r ≡ is_some o → IfSome o (IsMoved f mode.transition into vs given) → (o ≡ None → HasTotals f vs given (arcs_at f mode.transition into) → ⊥)
      → (vars : List ℕ) → IsAssigned f mode vars → IsTrue r ↔ ((m : List (Token × ℕ)) × IsMoved f mode.transition into vars mode.values m)
  totals_told into r None is some none vars assigned = (λ yes. absurd (false≢true (sym is ∙ yes)), λ has. absurd (none refl (totals_here into vars assigned.variables has)))
  totals_told into r (Some m) is some none vars assigned = (λ yes. (m, there (λ ws gs. IsMoved f mode.transition into ws gs m) vars assigned.variables some), λ has. is)

  -- where the condition does not hold, it is no mode
  pub no_condition : (b : Bool) → b ≡ false → (IsTrue b ↔ HoldsCondition f.declarations vs given (condition_at f mode.transition)) → IsTrue false ↔ IsMode f mode
  no_condition b fails told = (
    λ yes. absurd (false≢true yes),
    λ is. absurd (false≢true (sym fails ∙ told.1 (here (λ ws gs. HoldsCondition f.declarations ws gs (condition_at f mode.transition)) is.0 is.1.assigned.variables is.1.condition))),
  )

  module _ (vars : List ℕ) (assigned : IsAssigned f mode vars) where
    -- nor where it takes nothing
    pub no_totals : (b : Bool) → b ≡ false → (IsTrue b ↔ ((m : List (Token × ℕ)) × IsMoved f mode.transition false vars mode.values m)) → IsTrue false ↔ IsMode f mode
    no_totals b fails told = (
      λ yes. absurd (false≢true yes),
      λ is. absurd (false≢true (sym fails ∙ told.1 (is.1.takes.0, subst (λ ws. IsMoved f mode.transition false ws mode.values is.1.takes.0) (variables_once f mode.transition is.0 vars is.1.assigned.variables assigned.variables) is.1.takes.1))),
    )

    -- else it is one where it puts something
    pub mode_told : (b t r : Bool) → b ≡ true → (IsTrue b ↔ HoldsCondition f.declarations vs given (condition_at f mode.transition)) → t ≡ true → (IsTrue t ↔ ((m : List (Token × ℕ)) × IsMoved f mode.transition false vars mode.values m))
        → (IsTrue r ↔ ((m : List (Token × ℕ)) × IsMoved f mode.transition true vars mode.values m)) → IsTrue r ↔ IsMode f mode
    mode_told b t r holds condition takes taken put = (
      λ yes. (
        vars,
        record {
          assigned = assigned;
          condition = there (λ ws gs. HoldsCondition f.declarations ws gs (condition_at f mode.transition)) vars assigned.variables (condition.0 holds);
          takes = taken.0 takes;
          puts = put.0 yes;
        },
      ),
      λ is. put.1 (is.1.puts.0, subst (λ ws. IsMoved f mode.transition true ws mode.values is.1.puts.0) (variables_once f mode.transition is.0 vars is.1.assigned.variables assigned.variables) is.1.puts.1),
    )
