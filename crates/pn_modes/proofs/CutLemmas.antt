-- What a front can't have, no assignment that begins so has.
use Rattle.std.proofs.Common.{◌≡◌, ℕ, Bool, true, false, List, [], ◌∷◌, ◌++◌, length, map, take, Option, Some, None, IfSome, ◌⊎◌, inl, inr, refl, sym, ap, subst, arith}
use Rattle.std.specs.List.{Contains, slice_get}
use Rattle.std.specs.Option.{option_and_then}
use Rattle.pn_facts.proofs.Contained.{contains_at, contains_one}
use Rattle.pn_objects.specs.declared.object.Transition.{Transition}
use Rattle.pn_operators.specs.declared.op.Op.{Op}
use Rattle.pn_operators.specs.declared.op.Op.TheVariants as op
use Rattle.pn_syntax.specs.declared.term.TermNode.TheOpen as layer
use Rattle.pn_terms.specs.Terms.{Layer, layer_of, parts_in}
use Rattle.pn_terms.specs.Variables.{variables_in_term}
use Rattle.std.proofs.lemmas.List.{append-nil, length-append}
use Rattle.pn_bag.specs.Counts.{Includes}
use Rattle.pn_eval.specs.Assignments.{Covers}
use Rattle.pn_eval.specs.Values.{HasValue}
use Rattle.pn_eval.proofs.OnceLemmas.{value_once}
use Rattle.pn_eval.proofs.ReadyLemmas.{ready_part}
use Rattle.pn_marking.specs.Known.{arcs_with}
use Rattle.pn_marking.specs.Modes.{HoldsCondition, IsMode, IsModeBy, IsPre}
use Rattle.pn_marking.specs.Totals.{HasTotals, IsMoved, IsMovedBy, arcs_at, sum_at}
use Rattle.pn_marking.proofs.OnceLemmas.{variables_once}
use Rattle.pn_marking.proofs.TotalLemmas.{bags_once, has_totals}
use Rattle.pn_net.specs.Orders.{token_cmp}
use Rattle.pn_net.specs.Typed.{AreVariablesAt, HasTypedLabels, IsTypedTerm, condition_of}
use Rattle.pn_net.specs.declared.flat.Flat.{Flat}
use Rattle.pn_net.specs.declared.mode.Mode.{Mode}
use Rattle.pn_net.specs.declared.token.Token.{Token}
use Rattle.pn_operations.specs.Outcomes.{truth}
use Rattle.pn_operations.specs.declared.outcome.Outcome.{Outcome}
use Rattle.pn_sorts.specs.Standing.{IsFaultless}
use Rattle.pn_syntax.specs.declared.declaration.Declaration.{Declaration}
use Rattle.pn_syntax.specs.declared.term.Term.{Term}
use Rattle.pn_values.specs.declared.value.Value.{Value}
use Rattle.pn_modes.specs.declared.parts.ArcPart.{ArcPart}
use Rattle.pn_modes.specs.Enabled.{IsEnabledMode}
use Rattle.pn_modes.specs.Parts.{AreUnfit, IsArcWith, IsCut, IsPartAt, IsWanted, mode_of, parts_by, parts_in_layer, parts_of_condition, ready_numbers}
use Rattle.pn_modes.proofs.ConjunctLemmas.{part_true}
use Rattle.pn_modes.proofs.FrontLemmas.{value_same, whole_in_front}
use Rattle.pn_modes.proofs.KnownLemmas.{moved_ready, totals_ready}

-- what is wanted is a mode
pub wanted_mode : (f : Flat) (marking : Option (List (Token × ℕ))) (t : ℕ) (given : List Value) → IsWanted f marking (mode_of t given) → IsMode f (mode_of t given)
wanted_mode f None t given is = is
wanted_mode f (Some marking) t given is = is.0

-- what a mode takes it takes in each reading
pub one_pre : (f : Flat) → IsFaultless f.declarations → (mode : Mode) (m a b : List (Token × ℕ)) → IsPre f mode a → IsPre f mode b → Includes token_cmp m a → Includes token_cmp m b
one_pre f faultless mode m a b (vs, are, moved) (ws, are', moved') has k =
    let other : IsMoved f mode.transition false vs mode.values b = subst (λ xs. IsMoved f mode.transition false xs mode.values b) (variables_once f mode.transition ws vs are' are) moved' in
    let one : moved.bags ≡ other.bags = bags_once f.declarations vs mode.values (value_once f.declarations vs mode.values faultless) (arcs_at f mode.transition false) moved.bags other.bags moved.say other.say in
    let sums : sum_at (arcs_at f mode.transition false) moved.bags k ≡ sum_at (arcs_at f mode.transition false) other.bags k = ap (λ bags. sum_at (arcs_at f mode.transition false) bags k) one in
    let here = moved.sums k in
    let there = other.sums k in
    let le = has k in
    omega (arith, here, there, le, sums)

module _ (f : Flat) (t : ℕ) (vars : List ℕ) (are : AreVariablesAt f t vars) where
  -- a mode by these variables
  mode_by : (given : List Value) → IsMode f (mode_of t given) → IsModeBy f (mode_of t given) vars
  mode_by given (vs, by) = subst (IsModeBy f (mode_of t given)) (variables_once f t vs vars by.assigned.variables are) by

  pub cut_part : (marking : Option (List (Token × ℕ))) (front : List Value) (k : ℕ) → length front ≡ length (take k vars) → (p : Term) → IsTypedTerm f.declarations p → IsPartAt f t p → Covers f.declarations (take k vars) p
      → (HasValue f.declarations (take k vars) front p (truth true) → ⊥) → IsCut f t marking front
  cut_part marking front k size p typed (e, at, c) covers not rest wanted =
      let by = mode_by (front ++ rest) (wanted_mode f marking t (front ++ rest) wanted) in
      let whole : HasValue f.declarations vars (front ++ rest) e (truth true) = subst (HoldsCondition f.declarations vars (front ++ rest)) at by.condition in
      let there = part_true f.declarations vars (front ++ rest) e whole p c in
      not (value_same f.declarations (take k vars) vars (front ++ rest) (take k vars) front (whole_in_front vars k front rest size) p (truth true) (record { sound = typed.0; sorted = typed.1; covers = covers }) there)

  -- where all variables have values, what isn't wanted is cut
  pub whole_cut : (marking : Option (List (Token × ℕ))) (front : List Value) → length front ≡ length vars → (IsWanted f marking (mode_of t front) → ⊥) → IsCut f t marking front
  whole_cut marking front size not [] wanted = not (subst (λ given. IsWanted f marking (mode_of t given)) (append-nil front) wanted)
  whole_cut marking front size not (x ∷ rest) wanted =
      let by = mode_by (front ++ x ∷ rest) (wanted_mode f marking t (front ++ x ∷ rest) wanted) in
      let long = by.assigned.assignment.size in
      let both = length-append front (x ∷ rest) in
      absurd (omega (arith, size, long, both))

  moved_by : (into : Bool) (given : List Value) → IsModeBy f (mode_of t given) vars → (m : List (Token × ℕ)) × IsMoved f t into vars given m
  moved_by true given by = by.puts
  moved_by false given by = by.takes

  module _ (labels : HasTypedLabels f) (arcs : List ArcPart) (each : (a : ArcPart) → Contains arcs a → IsArcWith f vars a)
      (all : (into : Bool) → arcs_with f into (map (λ a. a.number) arcs) ≡ arcs_at f t into) (marking : Option (List (Token × ℕ))) (front : List Value) (k : ℕ) (size : length front ≡ length (take k vars)) where
    pub cut_totals : (into : Bool) → (HasTotals f (take k vars) front (arcs_with f into (ready_numbers k arcs)) → ⊥) → IsCut f t marking front
    cut_totals into not rest wanted =
        let by = mode_by (front ++ rest) (wanted_mode f marking t (front ++ rest) wanted) in
        let moved = moved_by into (front ++ rest) by in
        let whole = has_totals f vars (front ++ rest) (arcs_at f t into) moved.0 moved.1 in
        not (totals_ready f labels vars k front rest size into arcs each (subst (HasTotals f vars (front ++ rest)) (sym (all into)) whole))

    -- what a mode takes has what the arcs take that are ready
    taken_has : (rest : List Value) → ((e : Term) (o p : Outcome) → HasValue f.declarations (take k vars) front e o → HasValue f.declarations (take k vars) front e p → o ≡ p)
        → (m taken : List (Token × ℕ)) → IsMovedBy f (take k vars) front (arcs_with f false (ready_numbers k arcs)) m → IsPre f (mode_of t (front ++ rest)) taken → Includes token_cmp taken m
    taken_has rest once m taken some (vs, are', moved) =
        let whole : IsMoved f t false vars (front ++ rest) taken = subst (λ ws. IsMoved f t false ws (front ++ rest) taken) (variables_once f t vs vars are' are) moved in
        moved_ready f labels vars k front rest size false arcs once each m taken some (subst (λ bs. IsMovedBy f vars (front ++ rest) bs taken) (sym (all false)) whole)

    pub cut_unfit : ((e : Term) (o p : Outcome) → HasValue f.declarations (take k vars) front e o → HasValue f.declarations (take k vars) front e p → o ≡ p) → AreUnfit f (take k vars) front (ready_numbers k arcs) marking → IsCut f t marking front
    cut_unfit once (inl (into, not)) rest wanted = cut_totals into not rest wanted
    cut_unfit once (inr (taken, m, moved, is, not)) rest wanted =
        let enabled : IsEnabledMode f m (mode_of t (front ++ rest)) = subst (λ o. IsWanted f o (mode_of t (front ++ rest))) is wanted in
        let has = taken_has rest once taken enabled.1.0 moved enabled.1.1 in
        not (λ key. let a = has key in let b = enabled.1.2 key in omega (arith, a, b))

-- ---- terms of a typed net

part_by : (e : Term) (o : Op) (args : List Term) (p : Term) → Contains (parts_by e o args) p → (p ≡ e) ⊎ Contains args p
part_by e op.And args p c = inr c
part_by e _ args p c = inl (contains_one e p c)

part_is : (e : Term) (l : Layer) (p : Term) → Contains (parts_in_layer e l) p → (p ≡ e) ⊎ Contains (parts_in l) p
part_is e (layer.Apply o args) p c = part_by e o args p c
part_is e _ p c = inl (contains_one e p c)

part_typed : (items : List Declaration) (e p : Term) → Contains (parts_of_condition e) p → IsTypedTerm items e → IsTypedTerm items p
part_typed items e p c typed =
    elim (part_is e (layer_of e) p c) [
      | inl same ↦ subst (IsTypedTerm items) (sym same) typed
      | inr there ↦ let ready = ready_part items (variables_in_term items e) e p there (record { sound = typed.0; sorted = typed.1; covers = λ v d. d }) in (ready.sound, ready.sorted)
    ]

condition_typed : (f : Flat) → HasTypedLabels f → (o : Option Transition) (t : ℕ) → slice_get f.transitions t ≡ o → (e : Term) → option_and_then condition_of o ≡ Some e → IsTypedTerm f.declarations e
condition_typed f labels None t at e is = absurd (let bad : None ≡ Some e = is in cc)
condition_typed f labels (Some x) t at e is = subst (λ o. IfSome o (IsTypedTerm f.declarations)) is (labels.conditions x (contains_at f.transitions t x at))

-- the parts of conditions of a typed net have sorts
pub typed_at : (f : Flat) → HasTypedLabels f → (t : ℕ) (p : Term) → IsPartAt f t p → IsTypedTerm f.declarations p
typed_at f labels t p (e, at, c) = part_typed f.declarations e p c (condition_typed f labels (slice_get f.transitions t) t refl e at)
