-- The operator that has a name.
use Rattle.std.proofs.Common.{◌≡◌, ◌↔◌, refl, sym, ap, subst, ℕ, List, [], ◌∷◌, Bool, true, false, Option, None, Some, cond}
use Rattle.std.proofs.lemmas.Option.{same_Some}
use Rattle.std.proofs.lemmas.Slice.Eq.{bytes_eq-Decides}
use Rattle.std.specs.List.{find}
use Rattle.std.specs.Option.{unwrap_or}
use Rattle.std.specs.Str.{bytes_eq}
use Rattle.pn_operators.specs.declared.kind.Kind.TheVariants as kind
use Rattle.pn_operators.specs.declared.op.Op.{Op}
use Rattle.pn_operators.specs.declared.op.Op.TheVariants as op
use Rattle.pn_operators.specs.Operators.{name_of, IsTaken}
use Rattle.pn_operators.specs.Rows.{all_operators}
use Rattle.pn_operators.proofs.Naming.{taken_in_high_level}
use Rattle.pn_spelling.specs.ReadTerms.{operator_named}

-- the first operator of a name
abbrev pub first_by_name : List ℕ → List Op → Option Op
first_by_name name = find (λ o. bytes_eq (name_of o) name)

pub first_by_own_name : (o : Op) → first_by_name (name_of o) all_operators ≡ Some o
first_by_own_name op.DotConstant = refl
first_by_own_name _ = refl

-- each operator is named by its name
pub operator_by_own_name : (o : Op) → operator_named (name_of o) ≡ o
operator_by_own_name o = ap (λ r. unwrap_or r op.DotConstant) (first_by_own_name o)

first_has_name : (name : List ℕ) (os : List Op) (o : Op) → first_by_name name os ≡ Some o → name_of o ≡ name
first_has_name name [] o is = absurd (let no : None ≡ Some o = is in cc)
first_has_name name (p ∷ ps) o is = by (bytes_eq (name_of p) name) refl (first_has_name name ps o) is
  where
    by : (same : Bool) → bytes_eq (name_of p) name ≡ same → (first_by_name name ps ≡ Some o → name_of o ≡ name)
        → cond same (Some p) (first_by_name name ps) ≡ Some o → name_of o ≡ name
    by true same more found = subst (λ q. name_of q ≡ name) (same_Some p o found) ((bytes_eq-Decides (name_of p) name).0 same)
    by false same more found = more found

-- what a search finds in the nets that have every operator
pub operator_found : (name : List ℕ) (r : Option Op) → ((o : Op) → (r ≡ Some o) ↔ ((name_of o ≡ name) × IsTaken o kind.HighLevel))
    → unwrap_or r op.DotConstant ≡ operator_named name
operator_found name (Some o) so =
    ap (λ r. unwrap_or r op.DotConstant) (sym (subst (λ n. first_by_name n all_operators ≡ Some o) ((so o).0 refl).0 (first_by_own_name o)))
operator_found name None so = none (first_by_name name all_operators) refl
  where
    none : (first : Option Op) → first_by_name name all_operators ≡ first → unwrap_or None op.DotConstant ≡ unwrap_or first op.DotConstant
    none None is = refl
    none (Some o) is = let no : None ≡ Some o = (so o).1 (first_has_name name all_operators o is, taken_in_high_level o) in absurd cc
