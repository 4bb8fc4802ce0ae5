-- The variables of transitions have their values and sorts.
use Rattle.std.proofs.Common.{◌≡◌, ℕ, zero, suc, ◌+◌, ◌<◌, ◌≤◌, List, [], ◌∷◌, ◌++◌, map, length, get_or, take, Option, None, Some, IfSome, refl, sym, ap, ◌∙◌, subst, add-one, arith}
use Rattle.std.proofs.Math.Seq.{take-suc}
use Rattle.std.proofs.lemmas.Grind.{common_steps}
use Rattle.std.proofs.lemmas.Option.{slice_get-get_or}
use Rattle.std.specs.List.{AllByRecursion, AllZip, slice_get}
use Rattle.std.specs.Option.{option_map}
use Rattle.pn_carriers.specs.Members.{IsMember}
use Rattle.pn_eval.specs.Assignments.{IsAssignment}
use Rattle.pn_eval.proofs.AssignmentLemmas.{value_at}
use Rattle.pn_names.specs.Names.{Variable, variable_name, variables_of, widths_of}
use Rattle.pn_net.specs.Labels.{IsPlaceSort, IsSortBy, said}
use Rattle.pn_net.specs.Typed.{IsSortOfPlace}
use Rattle.pn_net.specs.declared.flat.Flat.{Flat}
use Rattle.pn_objects.specs.declared.object.Place.{Place}
use Rattle.pn_resolve.specs.Meaning.{Resolves}
use Rattle.pn_resolve.proofs.Meanings.{resolves_once}
use Rattle.pn_sorts.specs.Lookups.{IsVariableSort}
use Rattle.pn_shape.proofs.WrittenLemmas.{both_all}
use Rattle.pn_syntax.specs.declared.declaration.Declaration.{Declaration}
use Rattle.pn_syntax.specs.declared.sort_expr.SortExpr.{SortExpr}
use Rattle.pn_terms.proofs.SortLemmas.{same_some}
use Rattle.pn_values.specs.declared.sort.Sort.{Sort}
use Rattle.pn_values.specs.declared.value.Value.{Value}
use Rattle.pn_mode_text.specs.Texts.{IsTypedVariable, TypedVariable}

sort_once : (items : List Declaration) (o : Option SortExpr) (s r : Sort) → IsSortBy items o s → IsSortBy items o r → s ≡ r
sort_once items None s r is also = is ∙ sym also
sort_once items (Some e) s r is also = resolves_once items e s r is also

-- a place has one sort
pub place_sort_once : (f : Flat) (i : ℕ) (s r : Sort) → IsSortOfPlace f i s → IsSortOfPlace f i r → s ≡ r
place_sort_once f i s r (p, is, has) (q, also, other) =
    let same = same_some p q _ is also in
    sort_once f.declarations (said q.sort) s r (subst (λ (x : Place). IsPlaceSort f.declarations x s) same has) other

-- the id and the sort of a variable are those that it is told by
pub typed_once : (items : List Declaration) (v : ℕ) (id : List ℕ) (sort : Sort) (x : TypedVariable) → option_map variable_name (slice_get (variables_of items) v) ≡ Some id
    → IsVariableSort items v sort → IsTypedVariable items v x → (id ≡ x.id) × (sort ≡ x.sort)
typed_once items v id sort x named (y, is, has) (z, also, id_is, other) =
    let same = same_some y z _ is also in
    (same_some id z.id _ named (ap (option_map variable_name) also) ∙ sym id_is, resolves_once items z.sort sort x.sort (subst (λ (w : Variable). Resolves items w.sort sort) same has) other)

abbrev pub HasASort : List Declaration → ℕ → Type 0
HasASort items v = (s : Sort) × IsVariableSort items v s

pub each_typed : (items : List Declaration) (vs : List ℕ) → AllByRecursion (HasASort items) vs → (typed : List TypedVariable) × AllZip (IsTypedVariable items) vs typed
each_typed items [] all = ([], tt)
each_typed items (v ∷ vs) all =
    let rest = each_typed items vs all.1 in
    let declared : Variable = all.0.1.0 in
    (record { id = declared.id; sort = all.0.0 } ∷ rest.0, ((declared, all.0.1.1, refl, all.0.1.2), rest.1))

pub each_so_far : {A : Type 0} (P : A → Type 0) (xs : List A) (i : ℕ) (d : A) → i < length xs → AllByRecursion P (take i xs) → P (get_or xs i d) → AllByRecursion P (take (i + 1) xs)
each_so_far {A} P xs i d small all has =
    let next : take (i + 1) xs ≡ take i xs ++ (get_or xs i d ∷ []) = rw add-one (take-suc xs i d small) in
    subst (AllByRecursion P) (sym next) (both_all P (take i xs) (get_or xs i d ∷ []) all (has, tt))

pub each_taken : {A : Type 0} (P : A → Type 0) (xs : List A) (i : ℕ) → length xs ≤ i → AllByRecursion P (take i xs) → AllByRecursion P xs
each_taken P xs i long all = let whole : take i xs ≡ xs = grind (arith, common_steps) in subst (AllByRecursion P) whole all

pub zip_at : {A B : Type 0} (R : A → B → Type 0) (xs : List A) (ys : List B) (i : ℕ) (x : A) → AllZip R xs ys → slice_get xs i ≡ Some x → (y : B) × (slice_get ys i ≡ Some y) × R x y
zip_at R [] ys i x all is = absurd cc
zip_at R (z ∷ xs) [] i x all is = absurd all
zip_at {A} R (z ∷ xs) (y ∷ ys) zero x all is = let same : z ≡ x = cc in (y, refl, subst (λ (w : A). R w y) same all.0)
zip_at R (z ∷ xs) (y ∷ ys) (suc i) x all is = zip_at R xs ys i x all.1 is

pub zip_as_many : {A B : Type 0} (R : A → B → Type 0) (xs : List A) (ys : List B) → AllZip R xs ys → length xs ≡ length ys
zip_as_many R [] [] all = refl
zip_as_many R [] (y ∷ ys) all = absurd all
zip_as_many R (x ∷ xs) [] all = absurd all
zip_as_many R (x ∷ xs) (y ∷ ys) all = ap suc (zip_as_many R xs ys all.1)

-- the value at a place is of the sort of the variable there
pub member_at : (items : List Declaration) (vars : List ℕ) (values : List Value) (i v : ℕ) (value : Value) → IsAssignment items vars values → i < length vars → slice_get vars i ≡ Some v
    → value ≡ get_or values i value → (sort : Sort) → IsVariableSort items v sort → IsMember (widths_of items) value sort
member_at items vars values i v value a small is that sort of_sort =
    let here : get_or vars i 0 ≡ v = same_some (get_or vars i 0) v _ (slice_get-get_or vars i 0 small) is in
    a.members v value sort (value_at vars values i v value a.ascending a.size small here ∙ ap (λ (u : Value). Some u) (sym that)) of_sort
