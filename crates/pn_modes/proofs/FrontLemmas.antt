-- A term gives the same under each assignment that extends a front, where the front has a value for each of its variables.
use Rattle.std.proofs.Common.{◌≡◌, ◌==◌, ℕ, Bool, true, false, List, [], ◌∷◌, ◌++◌, length, take, cond, eqb, drop, Some, ◌⊎◌, inl, inr, refl, sym, ap, ◌∙◌, subst, arith}
use Rattle.std.specs.List.{Contains}
use Rattle.std.specs.Option.{option_to_list}
use Rattle.std.proofs.lemmas.Bool.Decides.{nat_tests}
use Rattle.std.proofs.lemmas.List.{take-append-drop}
use Rattle.pn_eval.specs.Assignments.{Covers, value_of_variable}
use Rattle.pn_eval.specs.Ready.{IsReady}
use Rattle.pn_eval.specs.Values.{GivesValue, HasValue, HaveValues, none, more}
use Rattle.pn_eval.proofs.ReadyLemmas.{ready_part}
use Rattle.pn_facts.proofs.Contained.{contains_cases, contains_first, contains_next, contains_nil}
use Rattle.pn_names.specs.Names.{variable_named}
use Rattle.pn_operations.specs.declared.outcome.Outcome.{Outcome}
use Rattle.pn_syntax.specs.declared.declaration.Declaration.{Declaration}
use Rattle.pn_syntax.specs.declared.term.Term.{Term}
use Rattle.pn_syntax.specs.declared.term.TermNode.TheOpen as layer
use Rattle.pn_terms.specs.Terms.{Layer, layer_of, parts_of}
use Rattle.pn_terms.specs.Variables.{variables_in_term}
use Rattle.pn_terms.proofs.VariableLemmas.{variables_at}
use Rattle.pn_values.specs.declared.value.Value.{Value}

-- a variable stands in the term that it is
variable_stands : (items : List Declaration) (e : Term) (name : List ℕ) (v : ℕ) → layer_of e ≡ layer.Variable name → variable_named items name ≡ Some v → Contains (variables_in_term items e) v
variable_stands items e name v is named =
    let all : variables_in_term items e ≡ option_to_list (variable_named items name) = variables_at items e (layer.Variable name) is in
    subst (λ vs. Contains vs v) (sym (all ∙ ap option_to_list named)) (contains_first v [])

-- what the one gives to these variables the other gives too
abbrev pub AgreeOn : List ℕ → List ℕ → List Value → List ℕ → List Value → Type 0
AgreeOn known vs given ws others = (v : ℕ) (x : Value) → Contains known v → value_of_variable vs given v ≡ Some x → value_of_variable ws others v ≡ Some x

module _ (items : List Declaration) (known vs : List ℕ) (given : List Value) (ws : List ℕ) (others : List Value) (agree : AgreeOn known vs given ws others) where
  layer_same : (e : Term) (l : Layer) → layer_of e ≡ l → Covers items known e → (os : List Outcome) (o : Outcome) → GivesValue items vs given l os o → GivesValue items ws others l os o
  layer_same e (layer.Variable name) is covers os o (v, value, named, at, gives) = (v, value, named, agree v value (covers v (variable_stands items e name v is named)) at, gives)
  layer_same e (layer.UserOp name) is covers os o gives = gives
  layer_same e (layer.Bool truth) is covers os o gives = gives
  layer_same e (layer.Number value sort) is covers os o gives = gives
  layer_same e (layer.RangeConst value start end) is covers os o gives = gives
  layer_same e (layer.Text text) is covers os o gives = gives
  layer_same e (layer.All sort) is covers os o gives = gives
  layer_same e (layer.Empty sort) is covers os o gives = gives
  layer_same e (layer.EmptyList sort) is covers os o gives = gives
  layer_same e (layer.PartitionOf name arg) is covers os o gives = gives
  layer_same e (layer.Apply op args) is covers os o gives = gives

  values_same : (es : List Term) (os : List Outcome) → ((e : Term) → Contains es e → IsReady items known e) → HaveValues items vs given es os → HaveValues items ws others es os
  values_same es os ready (none _ _ is_es is_os) = none es os is_es is_os
  values_same es os ready (more _ _ e rest o others' ps is_es is_os parts gives have) =
      let each : (p : Term) → Contains (e ∷ rest) p → IsReady items known p = λ p c. ready p (subst (λ xs. Contains xs p) (sym is_es) c) in
      let first : IsReady items known e = each e (contains_first e rest) in
      more es os e rest o others' ps is_es is_os
      (values_same (parts_of e) ps (λ p c. ready_part items known e p c first) parts)
      (layer_same e (layer_of e) refl first.covers ps o gives)
      (values_same rest others' (λ p c. each p (contains_next e rest p c)) have)

  pub value_same : (e : Term) (o : Outcome) → IsReady items known e → HasValue items vs given e o → HasValue items ws others e o
  value_same e o ready (os, have, gives) =
      (os, values_same (parts_of e) os (λ p c. ready_part items known e p c ready) have, layer_same e (layer_of e) refl ready.covers os o gives)

-- a variable that has a value in a front has no other in an assignment that begins with it
shortened : (vars behind : List ℕ) (given rest : List Value) (v : ℕ) (x : Value) → length given ≡ length vars → Contains vars v → value_of_variable (vars ++ behind) (given ++ rest) v ≡ Some x → value_of_variable vars given v ≡ Some x
shortened [] behind given rest v x size c is = absurd (contains_nil v c)
shortened (w ∷ vars) behind [] rest v x size c is = absurd (omega (arith, size))
shortened (w ∷ vars) behind (y ∷ given) rest v x size c is = step (w == v) refl (shortened vars behind given rest v x (omega (arith, size))) (contains_cases w vars v c) is
  where
    step : (b : Bool) → (w == v) ≡ b → (Contains vars v → value_of_variable (vars ++ behind) (given ++ rest) v ≡ Some x → value_of_variable vars given v ≡ Some x) → (w ≡ v) ⊎ Contains vars v
        → cond b (Some y) (value_of_variable (vars ++ behind) (given ++ rest) v) ≡ Some x → cond b (Some y) (value_of_variable vars given v) ≡ Some x
    step true e later at is = is
    step false e later (inl same) is = absurd (let here : eqb w v ≡ false = e in grind (arith, nat_tests))
    step false e later (inr there) is = later there is

-- the first variables and those behind them
pub whole_in_front : (vars : List ℕ) (k : ℕ) (given rest : List Value) → length given ≡ length (take k vars) → AgreeOn (take k vars) vars (given ++ rest) (take k vars) given
whole_in_front vars k given rest size v x c is = shortened (take k vars) (drop k vars) given rest v x size c (subst (λ vs. value_of_variable vs (given ++ rest) v ≡ Some x) (sym (take-append-drop k vars)) is)
