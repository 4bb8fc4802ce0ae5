-- Assignments of values to one variable at most, and multisets of modes with one more.
use Rattle.std.proofs.Common.{◌≡◌, ℕ, zero, suc, Bool, true, false, List, [], ◌∷◌, length, get_or, Result, Ok, Err, OnOk, OnErr, cond, eqb, Some, None, refl, sym, subst, arith}
use Rattle.std.specs.List.Sorted.{IsStrictlyIncreasing}
use Rattle.std.proofs.lemmas.Bool.Decides.{nat_tests}
use Rattle.std.proofs.lemmas.Option.{none-some, same_Some}
use Rattle.pn_bag.specs.Algebra.{added}
use Rattle.pn_bag.proofs.Canonical.{every_key-inserted}
use Rattle.pn_carriers.specs.Members.{IsMember}
use Rattle.pn_eval.specs.Assignments.{IsAssignment}
use Rattle.pn_marking.specs.Modes.{IsMode}
use Rattle.pn_marking.specs.Steps.{AreModes}
use Rattle.pn_names.specs.Names.{widths_of}
use Rattle.pn_net.specs.Orders.{mode_cmp, modes_total}
use Rattle.pn_net.specs.declared.flat.Flat.{Flat}
use Rattle.pn_net.specs.declared.mode.Mode.{Mode}
use Rattle.pn_sorts.specs.Lookups.{IsVariableSort}
use Rattle.pn_syntax.specs.declared.declaration.Declaration.{Declaration}
use Rattle.pn_values.specs.declared.sort.Sort.{Sort}
use Rattle.pn_values.specs.declared.value.Value.{Value}

-- a value is of the sort of a variable
abbrev pub IsNetOf : List Declaration → ℕ → Value → Type 0
IsNetOf items v value = (sort : Sort) → IsVariableSort items v sort → IsMember (widths_of items) value sort

pub no_variable : (items : List Declaration) (vars : List ℕ) (values : List Value) → IsStrictlyIncreasing vars → length vars ≡ 0 → length values ≡ length vars → IsAssignment items vars values
no_variable items [] values ascending none size = record { ascending = ascending; size = size; members = λ v value sort at. absurd (none-some value at) }
no_variable items (x ∷ vars) values ascending none size = absurd (omega arith)

pub one_variable : (items : List Declaration) (x : ℕ) (value : Value) (vars : List ℕ) (values : List Value) → IsStrictlyIncreasing vars → vars ≡ x ∷ [] → values ≡ value ∷ [] → IsNetOf items x value → IsAssignment items vars values
one_variable items x value vars values ascending vars_are values_are of =
    subst (λ vs. IsAssignment items vs values) (sym vars_are) (subst (IsAssignment items (x ∷ [])) (sym values_are) (record {
      ascending = subst IsStrictlyIncreasing vars_are ascending;
      size = refl;
      members = λ v w sort at of_sort. each v w (eqb x v) refl at sort of_sort;
    }))
  where
    each : (v : ℕ) (w : Value) (t : Bool) → eqb x v ≡ t → cond t (Some value) None ≡ Some w → IsNetOf items v w
    each v w true is at = subst (IsNetOf items v) (same_Some value w at) (subst (λ y. IsNetOf items y value) {x = x} (grind (arith, nat_tests)) of)
    each v w false is at = absurd (none-some w at)

pub modes_added : (f : Flat) (modes : List (Mode × ℕ)) (mode : Mode) (n : ℕ) → AreModes f modes → IsMode f mode → AreModes f (added mode_cmp modes mode n)
modes_added f modes mode zero are is = are
modes_added f modes mode (suc n) are is = every_key-inserted modes_total (IsMode f) modes (mode, suc n) is are

-- whether one was added or nothing changed
pub still_modes : {T E : Type 0} (r : Result T E) (f : Flat) (old new : List (Mode × ℕ)) (mode : Mode) (n : ℕ) → AreModes f old → IsMode f mode → OnOk r (new ≡ added mode_cmp old mode n) → OnErr r (new ≡ old) → AreModes f new
still_modes (Ok x) f old new mode n are is added_one same = subst (AreModes f) (sym added_one) (modes_added f old mode n are is)
still_modes (Err e) f old new mode n are is added_one same = subst (AreModes f) (sym same) are

pub only_one : {X : Type 0} (xs : List X) (d : X) → length xs ≡ 1 → xs ≡ get_or xs 0 d ∷ []
only_one [] d one = absurd (omega arith)
only_one (x ∷ []) d one = refl
only_one (x ∷ y ∷ ys) d one = absurd (omega arith)
