-- Three variables with their values, and variables that are among others.
use Rattle.std.proofs.Common.{◌≡◌, ◌⊎◌, inl, inr, ◌<◌, ◌≤◌, ◌+◌, ℕ, zero, suc, Bool, true, false, List, [], ◌∷◌, ◌++◌, length, get_or, take, cond, eqb, nat_eq, ◌||◌, Option, Some, None, refl, sym, ap, ◌∙◌, subst, arith}
use Rattle.std.specs.List.{Contains, list_any}
use Rattle.std.proofs.lemmas.Bool.{false≢true}
use Rattle.std.proofs.lemmas.List.{take_more}
use Rattle.std.proofs.lemmas.List.Elements.{Contains-append_cases}
use Rattle.pn_facts.proofs.Contained.{contains_first, contains_next, contains_one}
use Rattle.std.specs.List.Sorted.{IsStrictlyIncreasing}
use Rattle.std.proofs.lemmas.Bool.Decides.{nat_tests}
use Rattle.std.proofs.lemmas.Option.{none-some, same_Some}
use Rattle.pn_carriers.specs.Members.{IsMember}
use Rattle.pn_eval.specs.Assignments.{IsAssignment}
use Rattle.pn_names.specs.Names.{widths_of}
use Rattle.pn_sorts.specs.Lookups.{IsVariableSort}
use Rattle.pn_syntax.specs.declared.declaration.Declaration.{Declaration}
use Rattle.pn_values.specs.declared.sort.Sort.{Sort}
use Rattle.pn_values.specs.declared.value.Value.{Value}

-- a value is of the sort of a variable
abbrev pub IsOf : List Declaration → ℕ → Value → Type 0
IsOf items v value = (sort : Sort) → IsVariableSort items v sort → IsMember (widths_of items) value sort

rising : IsStrictlyIncreasing (0 ∷ 1 ∷ 2 ∷ [])
rising zero l = omega arith
rising (suc zero) l = omega arith
rising (suc (suc k)) l = absurd (omega (arith, l))

pick : (x v : ℕ) (value w : Value) (rest : Option Value) (t : Bool) → eqb x v ≡ t → cond t (Some value) rest ≡ Some w → ((x ≡ v) × (value ≡ w)) ⊎ (rest ≡ Some w)
pick x v value w rest true is h = inl (grind (arith, nat_tests), same_Some value w h)
pick x v value w rest false is h = inr h

same_of : (items : List Declaration) (x v : ℕ) (value w : Value) → (x ≡ v) × (value ≡ w) → IsOf items x value → IsOf items v w
same_of items x v value w (same, is) of = subst (IsOf items v) is (subst (λ y. IsOf items y value) same of)

pub three : (items : List Declaration) (a b c : Value) → IsOf items 0 a → IsOf items 1 b → IsOf items 2 c → IsAssignment items (0 ∷ 1 ∷ 2 ∷ []) (a ∷ b ∷ c ∷ [])
three items a b c of_a of_b of_c = record {
  ascending = rising;
  size = refl;
  members = λ v w sort at of_sort. each v w at sort of_sort;
}
  where
    third : (v : ℕ) (w : Value) (t : Bool) → eqb 2 v ≡ t → cond t (Some c) None ≡ Some w → IsOf items v w
    third v w t is h = elim (pick 2 v c w None t is h) [ inl x ↦ same_of items 2 v c w x of_c | inr y ↦ absurd (none-some w y) ]

    second : (v : ℕ) (w : Value) (t : Bool) → eqb 1 v ≡ t → cond t (Some b) (cond (eqb 2 v) (Some c) None) ≡ Some w → IsOf items v w
    second v w t is h = elim (pick 1 v b w (cond (eqb 2 v) (Some c) None) t is h) [ inl x ↦ same_of items 1 v b w x of_b | inr y ↦ third v w (eqb 2 v) refl y ]

    each : (v : ℕ) (w : Value) → cond (eqb 0 v) (Some a) (cond (eqb 1 v) (Some b) (cond (eqb 2 v) (Some c) None)) ≡ Some w → IsOf items v w
    each v w h = elim (pick 0 v a w (cond (eqb 1 v) (Some b) (cond (eqb 2 v) (Some c) None)) (eqb 0 v) refl h) [ inl x ↦ same_of items 0 v a w x of_a | inr y ↦ second v w (eqb 1 v) refl y ]

-- a test whether a list has a number
pub found_in : (vars : List ℕ) (x : ℕ) → list_any (λ y. nat_eq y x) vars ≡ true → Contains vars x
found_in [] x h = absurd (false≢true h)
found_in (y ∷ ys) x h = by_test (nat_eq y x) refl (found_in ys x) h
  where
    by_test : (t : Bool) → nat_eq y x ≡ t → (list_any (λ z. nat_eq z x) ys ≡ true → Contains ys x) → (t || list_any (λ z. nat_eq z x) ys) ≡ true → Contains (y ∷ ys) x
    by_test true is later whole = let same : y ≡ x = grind (arith, nat_tests) in subst (λ z. Contains (z ∷ ys) x) (sym same) (contains_first x ys)
    by_test false is later whole = contains_next y ys x (later whole)

one_more : (vars found : List ℕ) (x v : ℕ) → Contains vars x → (Contains found v → Contains vars v) → Contains found v ⊎ Contains (x ∷ []) v → Contains vars v
one_more vars found x v here so_far (inl before) = so_far before
one_more vars found x v here so_far (inr last) = subst (Contains vars) (sym (contains_one x v last)) here

-- the numbers as far as the next are among others
pub among_next : (found vars : List ℕ) (i x : ℕ) → i < length found → x ≡ get_or found i x → Contains vars x → ((v : ℕ) → Contains (take i found) v → Contains vars v) → (v : ℕ) → Contains (take (i + 1) found) v → Contains vars v
among_next found vars i x less is here so_far v c =
    let next : take (i + 1) found ≡ take i found ++ x ∷ [] = take_more found i x less ∙ ap (λ y. take i found ++ y ∷ []) (sym is) in
    one_more vars (take i found) x v here (so_far v) (Contains-append_cases (take i found) (x ∷ []) v (subst (λ xs. Contains xs v) next c))
