-- The variables that a listing tells of are declared.
use Rattle.std.proofs.Common.{◌≡◌, ◌⊎◌, inl, inr, ◌<◌, ◌≤◌, None, slice_get, get_or, ℕ, Bool, true, false, cond, List, [], ◌∷◌, length, Some, sym, ◌∙◌, subst}
use Rattle.std.specs.List.{AllZip}
use Rattle.std.proofs.lemmas.Option.{slice_get_cases}
use Rattle.pn_modes.specs.Causes.{IsFirstInfinite, first_with, is_infinite}
use Rattle.pn_names.specs.Names.{variables_of}
use Rattle.pn_net.specs.declared.flat.Flat.{Flat}
use Rattle.pn_sorts.specs.Lookups.{IsVariableSort}
use Rattle.pn_syntax.specs.declared.declaration.Declaration.{Declaration}
use Rattle.pn_values.specs.declared.sort.Sort.{Sort}

within : {X : Type 0} (xs : List X) (i : ℕ) (x : X) → slice_get xs i ≡ Some x → i < length xs
within {X} xs i x is = by (slice_get_cases xs i).1
  where
    by : ((y : X) × (i < length xs) × (slice_get xs i ≡ Some y) × (get_or xs i y ≡ y)) ⊎ ((length xs ≤ i) × (slice_get xs i ≡ None)) → i < length xs
    by (inl there) = there.1
    by (inr past) = let clash : Some x ≡ None = sym is ∙ past.1 in absurd cc

module _ (items : List Declaration) (test : Sort → Bool) where
  first_declared : (vars : List ℕ) (sorts : List Sort) (v : ℕ) → AllZip (IsVariableSort items) vars sorts → first_with test vars sorts ≡ Some v → v < length (variables_of items)
  first_declared [] sorts v zip is = absurd cc
  first_declared (w ∷ vars) [] v zip is = absurd zip
  first_declared (w ∷ vars) (sort ∷ sorts) v zip is = step (test sort) is (first_declared vars sorts v zip.1)
    where
      step : (b : Bool) → cond b (Some w) (first_with test vars sorts) ≡ Some v → (first_with test vars sorts ≡ Some v → v < length (variables_of items)) → v < length (variables_of items)
      step true here rest = let same : w ≡ v = cc in subst (λ n. n < length (variables_of items)) same (within (variables_of items) w zip.0.0 zip.0.1)
      step false behind rest = rest behind

pub infinite_declared : (f : Flat) (t v : ℕ) → IsFirstInfinite f t (Some v) → v < length (variables_of f.declarations)
infinite_declared f t v is = first_declared f.declarations is_infinite is.0 is.1 v is.2.are_sorts is.3
