-- Fronts are assignments to the first variables of a transition.
use Rattle.std.proofs.Common.{◌≡◌, ◌+◌, ◌≤◌, ℕ, Bool, true, false, List, [], ◌∷◌, length, map, take, get_or, cond, eqb, Some, None, refl, sym, ap, ◌∙◌, subst, arith}
use Rattle.std.specs.List.{AllZip}
use Rattle.std.specs.List.Sorted.{IsStrictlyIncreasing}
use Rattle.std.proofs.lemmas.Bool.Decides.{nat_tests}
use Rattle.std.proofs.lemmas.List.{get_or-take, length-map, length-take, length-take-le}
use Rattle.std.proofs.lemmas.Slice.Zip.{AllZip-long}
use Rattle.std.proofs.Math.Seq.{take-length}
use Rattle.pn_carriers.specs.Carriers.{carrier}
use Rattle.pn_carriers.specs.Members.{IsMember}
use Rattle.pn_carriers.proofs.CarrierLemmas.{agrees}
use Rattle.pn_eval.specs.Assignments.{IsAssignment, value_of_variable}
use Rattle.pn_facts.proofs.Contained.{at_contains}
use Rattle.pn_names.specs.Names.{widths_of}
use Rattle.pn_sorts.specs.Lookups.{IsVariableSort}
use Rattle.pn_syntax.specs.declared.declaration.Declaration.{Declaration}
use Rattle.pn_terms.proofs.SortLemmas.{variable_once}
use Rattle.pn_values.specs.declared.sort.Sort.{Sort}
use Rattle.pn_values.specs.declared.value.Value.{Value}
use Rattle.pn_modes.specs.Carriers.{IsFrontOf}

take_rises : (xs : List ℕ) (n : ℕ) → IsStrictlyIncreasing xs → IsStrictlyIncreasing (take n xs)
take_rises xs n up k l =
    let long = length-take n xs in
    let here : get_or (take n xs) k 0 ≡ get_or xs k 0 = get_or-take n xs k 0 (omega (arith, l, long)) in
    let next : get_or (take n xs) (k + 1) 0 ≡ get_or xs (k + 1) 0 = get_or-take n xs (k + 1) 0 (omega (arith, l, long)) in
    let lt = up k (omega (arith, l, long)) in
    omega (arith, here, next, lt)

-- ---- fronts

module _ (items : List Declaration) where
  front_within : (vars : List ℕ) (sorts : List Sort) (front : List Value) → AllZip (IsVariableSort items) vars sorts → IsFrontOf (map (carrier (widths_of items)) sorts) front → length front ≤ length vars
  front_within vars sorts [] zip is = omega arith
  front_within [] [] (y ∷ ys) zip is = absurd is
  front_within [] (s ∷ ss) (y ∷ ys) zip is = absurd zip
  front_within (w ∷ ws) [] (y ∷ ys) zip is = absurd zip
  front_within (w ∷ ws) (s ∷ ss) (y ∷ ys) zip is = let le = front_within ws ss ys zip.1 is.1 in omega (arith, le)

  front_members : (vars : List ℕ) (sorts : List Sort) (front : List Value) → AllZip (IsVariableSort items) vars sorts → IsFrontOf (map (carrier (widths_of items)) sorts) front
      → (v : ℕ) (value : Value) (sort : Sort) → value_of_variable (take (length front) vars) front v ≡ Some value → IsVariableSort items v sort → IsMember (widths_of items) value sort
  front_members vars sorts [] zip is v value sort at of_sort = absurd (let bad : None ≡ Some value = at in cc)
  front_members [] [] (y ∷ ys) zip is v value sort at of_sort = absurd is
  front_members [] (s ∷ ss) (y ∷ ys) zip is v value sort at of_sort = absurd zip
  front_members (w ∷ ws) [] (y ∷ ys) zip is v value sort at of_sort = absurd zip
  front_members (w ∷ ws) (s ∷ ss) (y ∷ ys) zip is v value sort at of_sort = step (eqb w v) refl at (front_members ws ss ys zip.1 is.1 v value sort)
    where
      step : (b : Bool) → eqb w v ≡ b → cond b (Some y) (value_of_variable (take (length ys) ws) ys v) ≡ Some value
          → (value_of_variable (take (length ys) ws) ys v ≡ Some value → IsVariableSort items v sort → IsMember (widths_of items) value sort) → IsMember (widths_of items) value sort
      step true e at later =
          let same : w ≡ v = grind (arith, nat_tests) in
          let here : y ≡ value = cc in
          let there = at_contains (carrier (widths_of items) s) y is.0 in
          let own : s ≡ sort = variable_once items v s sort (subst (λ n. IsVariableSort items n s) same zip.0) of_sort in
          subst (λ z. IsMember (widths_of items) value z) own (subst (λ z. IsMember (widths_of items) z s) here ((agrees (widths_of items) s).member there.0 y there.1))
      step false e at later = later at of_sort

  -- a front assigns values to the first variables
  pub front_assigns : (vars : List ℕ) (sorts : List Sort) (front : List Value) → IsStrictlyIncreasing vars → AllZip (IsVariableSort items) vars sorts → IsFrontOf (map (carrier (widths_of items)) sorts) front
      → IsAssignment items (take (length front) vars) front
  front_assigns vars sorts front up zip is = record {
    ascending = take_rises vars (length front) up;
    size = sym (length-take-le (length front) vars (front_within vars sorts front zip is));
    members = front_members vars sorts front zip is;
  }

  pub as_many : (vars : List ℕ) (sorts : List Sort) → AllZip (IsVariableSort items) vars sorts → length (map (carrier (widths_of items)) sorts) ≡ length vars
  as_many vars sorts zip = length-map sorts (carrier (widths_of items)) ∙ AllZip-long (IsVariableSort items) vars sorts zip

  -- a front of all variables
  pub whole_assigns : (vars : List ℕ) (sorts : List Sort) (front : List Value) → IsStrictlyIncreasing vars → AllZip (IsVariableSort items) vars sorts → IsFrontOf (map (carrier (widths_of items)) sorts) front
      → length vars ≤ length front → (length front ≡ length vars) × IsAssignment items vars front
  whole_assigns vars sorts front up zip is all =
      let le = front_within vars sorts front zip is in
      let same : length front ≡ length vars = omega (arith, le, all) in
      (same, subst (λ vs. IsAssignment items vs front) (ap (λ n. take n vars) same ∙ take-length vars) (front_assigns vars sorts front up zip is))
