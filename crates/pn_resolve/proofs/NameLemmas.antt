-- The places that names of sorts have.
use Rattle.std.proofs.Common.{◌≡◌, ◌⊎◌, inl, inr, ℕ, suc, ◌+◌, ◌<◌, Bool, true, false, cond, List, [], ◌∷◌, ◌++◌, length, Some, None, refl, ap, ◌∙◌, arith}
use Rattle.std.specs.List.{slice_get}
use Rattle.std.proofs.lemmas.Option.{slice_get_within}
use Rattle.std.specs.Str.{bytes_eq}
use Rattle.pn_syntax.specs.declared.declaration.Declaration.{Declaration}
use Rattle.pn_syntax.specs.declared.declaration.Declaration.TheVariants as declarations
use Rattle.pn_names.specs.declared.Declared.{Declared}
use Rattle.pn_names.specs.declared.Declared.TheVariants as declared
use Rattle.pn_ids.specs.Names.{named_in}
use Rattle.pn_names.specs.Names.{id_of, constant_ids, numbered, own_name, with_variable, names_in, names_from, names_of, sort_place, sort_named}
use Rattle.pn_resolve.proofs.Options.{then_some}

named_either : (xs ys : List (List ℕ × Declared)) (id : List ℕ) (x : Declared) → named_in (xs ++ ys) id ≡ Some x → (named_in xs id ≡ Some x) ⊎ (named_in ys id ≡ Some x)
named_either [] ys id x h = inr h
named_either (n ∷ xs) ys id x h = step (bytes_eq id n.0) h (named_either xs ys id x)
  where
    step : (b : Bool) → cond b (Some n.1) (named_in (xs ++ ys) id) ≡ Some x → (named_in (xs ++ ys) id ≡ Some x → (named_in xs id ≡ Some x) ⊎ (named_in ys id ≡ Some x)) → (cond b (Some n.1) (named_in xs id) ≡ Some x) ⊎ (named_in ys id ≡ Some x)
    step true k more = inl k
    step false k more = more k

-- constants are no sorts
no_sort : (place index : ℕ) (ids : List (List ℕ)) (id : List ℕ) (x : Declared) (k : ℕ) → named_in (numbered place index ids) id ≡ Some x → sort_place x ≡ Some k → ⊥
no_sort place index [] id x k h s = cc
no_sort place index (i ∷ ids) id x k h s = step (bytes_eq id i) h (λ w. no_sort place (suc index) ids id x k w s)
  where
    step : (b : Bool) → cond b (Some (declared.Constant (record { declaration = place; index = index }))) (named_in (numbered place (suc index) ids) id) ≡ Some x → (named_in (numbered place (suc index) ids) id ≡ Some x → ⊥) → ⊥
    step true w more = let same : declared.Constant (record { declaration = place; index = index }) ≡ x = cc in let bad : None ≡ Some k = ap sort_place same ∙ s in cc
    step false w more = more w

-- whether a declaration names a sort
abbrev pub names_sort : Declaration → Bool
names_sort (declarations.Named id name body at) = true
names_sort (declarations.Variable id name sort at) = false
names_sort (declarations.Partition id name sort elements at) = true

own_place : (place before : ℕ) (d : Declaration) (k : ℕ) → sort_place (own_name place before d) ≡ Some k → (k ≡ place) × (names_sort d ≡ true)
own_place place before (declarations.Named id name body at) k h = (cc, refl)
own_place place before (declarations.Variable id name sort at) k h = absurd cc
own_place place before (declarations.Partition id name sort elements at) k h = (cc, refl)

in_one : (place before : ℕ) (d : Declaration) (id : List ℕ) (x : Declared) (k : ℕ) → named_in (names_in place before d) id ≡ Some x → sort_place x ≡ Some k → (k ≡ place) × (names_sort d ≡ true)
in_one place before d id x k h s = step (bytes_eq id (id_of d)) h
  where
    step : (b : Bool) → cond b (Some (own_name place before d)) (named_in (numbered place 0 (constant_ids d)) id) ≡ Some x → (k ≡ place) × (names_sort d ≡ true)
    step true w = let same : own_name place before d ≡ x = cc in own_place place before d k (ap sort_place same ∙ s)
    step false w = absurd (no_sort place 0 (constant_ids d) id x k w s)

-- a declaration of a sort at a place
pub record SortAt (ds : List Declaration) (first k : ℕ) : Type 0 where
  pub index : ℕ
  pub is : k ≡ first + index
  pub declaration : Declaration
  pub stands : slice_get ds index ≡ Some declaration
  pub is_sort : names_sort declaration ≡ true

sort_among : (ds : List Declaration) (place before : ℕ) (id : List ℕ) (x : Declared) (k : ℕ) → named_in (names_from place before ds) id ≡ Some x → sort_place x ≡ Some k → SortAt ds place k
sort_among [] place before id x k h s = absurd cc
sort_among (d ∷ ds) place before id x k h s = elim (named_either (names_in place before d) (names_from (suc place) (with_variable before d) ds) id x h) [
  | inl a ↦ (let same = in_one place before d id x k a s in record { index = 0; is = omega (arith, same.0); declaration = d; stands = refl; is_sort = same.1 })
  | inr b ↦ (let more = sort_among ds (suc place) (with_variable before d) id x k b s in record { index = suc more.index; is = omega (arith, more.is); declaration = more.declaration; stands = more.stands; is_sort = more.is_sort })
]

-- a sort's name names a `namedsort` or a partition
pub sort_declared : (items : List Declaration) (name : List ℕ) (k : ℕ) → sort_named items name ≡ Some k → (d : Declaration) × (slice_get items k ≡ Some d) × (names_sort d ≡ true)
sort_declared items name k h =
    let found = then_some sort_place (named_in (names_of items) name) k h in
    let sort = sort_among items 0 0 name found.0 k found.1 found.2 in
    let here : k ≡ sort.index = omega (arith, sort.is) in
    (sort.declaration, ap (slice_get items) here ∙ sort.stands, sort.is_sort)

pub place_is_within : (items : List Declaration) (name : List ℕ) (k : ℕ) → sort_named items name ≡ Some k → k < length items
place_is_within items name k h = let sort = sort_declared items name k h in slice_get_within items k sort.0 sort.1
