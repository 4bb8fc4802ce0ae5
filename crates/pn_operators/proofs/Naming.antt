-- What the search finds: each operator by its own name, and nothing by another name.
use Rattle.std.proofs.Common.{◌≡◌, ◌↔◌, refl, sym, ◌∙◌, ap, subst, ℕ, List, [], ◌∷◌, map, Bool, true, false, ◌&&◌, Option, None, Some, if◌then◌else◌}
use Rattle.std.proofs.lemmas.Option.{same_Some}
use Rattle.std.proofs.lemmas.Slice.Eq.{bytes_eq-Decides}
use Rattle.std.specs.List.{AllByRecursion}
use Rattle.std.specs.Str.{bytes_eq}
use Rattle.pn_operators.specs.declared.kind.Kind.{Kind}
use Rattle.pn_operators.specs.declared.kind.Kind.TheVariants as kind
use Rattle.pn_operators.specs.declared.op.Op.{Op}
use Rattle.pn_operators.specs.declared.op.Op.TheVariants as op
use Rattle.pn_operators.specs.declared.row.OpRow.{OpRow}
use Rattle.pn_operators.specs.Operators.{name_of, from_of, is_taken, IsTaken}
use Rattle.pn_operators.specs.Rows.{all_operators, TellsOf, IsTable, found_in}

-- the first operator that has this name and is taken in this kind of nets
abbrev pub named_in : List ℕ → Kind → List Op → Option Op
named_in name k [] = None
named_in name k (o ∷ os) = if bytes_eq (name_of o) name && is_taken (from_of o) k then Some o else named_in name k os

pub found_is_named : (name : List ℕ) (k : Kind) (rows : List OpRow) → AllByRecursion TellsOf rows
    → found_in name k rows ≡ named_in name k (map (λ row. row.op) rows)
found_is_named name k [] h = refl
found_is_named name k (row ∷ rows) (tells, more) =
    let step = found_is_named name k rows more in
    ap (λ n. if bytes_eq n name && is_taken row.from k then Some row.op else found_in name k rows) tells.name
    ∙ ap (λ f. if bytes_eq (name_of row.op) name && is_taken f k then Some row.op else found_in name k rows) tells.from
    ∙ ap (λ o. if bytes_eq (name_of row.op) name && is_taken (from_of row.op) k then Some row.op else o) step

pub has_name : (name : List ℕ) (k : Kind) (os : List Op) (o : Op) → named_in name k os ≡ Some o → (name_of o ≡ name) × IsTaken o k
has_name name k [] o h = absurd (let no : None ≡ Some o = h in cc)
has_name name k (first ∷ os) o h = by (bytes_eq (name_of first) name) (is_taken (from_of first) k) refl refl (has_name name k os o) h
  where
    by : (same taken : Bool) → bytes_eq (name_of first) name ≡ same → is_taken (from_of first) k ≡ taken
        → (named_in name k os ≡ Some o → (name_of o ≡ name) × IsTaken o k)
        → (if same && taken then Some first else named_in name k os) ≡ Some o → (name_of o ≡ name) × IsTaken o k
    by true true is_same is_in more found =
        let same = same_Some first o found in
        subst (λ p. (name_of p ≡ name) × IsTaken p k) same ((bytes_eq-Decides (name_of first) name).0 is_same, is_in)
    by true false is_same is_in more found = more found
    by false taken is_same is_in more found = more found

-- in a net that has it an operator is found by its name, in any other it is not
pub found_by_name : (o : Op) (k : Kind) → named_in (name_of o) k all_operators ≡ (if is_taken (from_of o) k then Some o else None)
found_by_name op.DotConstant k = refl
found_by_name _ k = refl

pub named_so : (name : List ℕ) (k : Kind) (o : Op) → (named_in name k all_operators ≡ Some o) ↔ ((name_of o ≡ name) × IsTaken o k)
named_so name k o = (has_name name k all_operators o, λ h. back h.0 h.1)
  where
    back : name_of o ≡ name → IsTaken o k → named_in name k all_operators ≡ Some o
    back same taken = subst (λ n. named_in n k all_operators ≡ Some o) same
        (found_by_name o k ∙ ap (λ b. if b then Some o else None) taken)

-- what a search through the table finds
pub found_so : (name : List ℕ) (k : Kind) (rows : List OpRow) → IsTable rows → (r : Option Op) → r ≡ found_in name k rows
    → (o : Op) → (r ≡ Some o) ↔ ((name_of o ≡ name) × IsTaken o k)
found_so name k rows table r is o =
    let same : r ≡ named_in name k all_operators = is ∙ found_is_named name k rows table.tells ∙ ap (named_in name k) table.whole in
    subst (λ x. (x ≡ Some o) ↔ ((name_of o ≡ name) × IsTaken o k)) (sym same) (named_so name k o)

-- high-level nets have every operator
pub taken_in_high_level : (o : Op) → is_taken (from_of o) kind.HighLevel ≡ true
taken_in_high_level op.DotConstant = refl
taken_in_high_level _ = refl

pub by_name : (o : Op) → named_in (name_of o) kind.HighLevel all_operators ≡ Some o
by_name o = found_by_name o kind.HighLevel ∙ ap (λ b. if b then Some o else None) (taken_in_high_level o)

-- two operators of one name are one
pub one_to_one : (a b : Op) → name_of a ≡ name_of b → a ≡ b
one_to_one a b same = same_Some a b (sym (by_name a) ∙ ap (λ n. named_in n kind.HighLevel all_operators) same ∙ by_name b)
