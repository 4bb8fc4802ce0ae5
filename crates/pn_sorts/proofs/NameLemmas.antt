-- What an id names is declared.
use Rattle.std.proofs.Common.{◌≡◌, ◌<◌, ℕ, List, length, refl, sym, subst, Option, Some, None, slice_get, IfSome, IsSome}
use Rattle.std.specs.Option.{option_and_then}
use Rattle.std.proofs.lemmas.Option.{slice_get_within}
use Rattle.pn_syntax.specs.declared.declaration.Declaration.{Declaration}
use Rattle.pn_syntax.specs.declared.declaration.Declaration.TheVariants as declarations
use Rattle.pn_syntax.specs.declared.declaration.SortBody.TheVariants as bodies
use Rattle.pn_values.specs.declared.constant_ref.ConstantRef.{ConstantRef}
use Rattle.pn_names.specs.declared.Declared.{Declared}
use Rattle.pn_names.specs.declared.Declared.TheVariants as declared
use Rattle.pn_names.specs.Names.{IsConstant, constant_ids, constant_named, constant_ref, meaning_of, partition_named, partition_place, variable_named, variable_number, variables_of}
use Rattle.pn_names.proofs.DeclaredLemmas.{found_declared}
use Rattle.pn_resolve.specs.Standing.{base_of}
use Rattle.pn_sorts.specs.Lookups.{base_expr, sort_at, sort_of_constant}

number_is : (items : List Declaration) (id : List ℕ) (o : Option Declared) → meaning_of items id ≡ o → IfSome (option_and_then variable_number o) (λ v. v < length (variables_of items))
number_is items id None e = tt
number_is items id (Some (declared.Named place)) e = tt
number_is items id (Some (declared.Partition place)) e = tt
number_is items id (Some (declared.Variable number)) e = let there = found_declared items id (declared.Variable number) e in slice_get_within (variables_of items) number _ there.1
number_is items id (Some (declared.Constant c)) e = tt

-- a variable that is named is one of the variables
pub variable_is : (items : List Declaration) (id : List ℕ) (o : Option ℕ) → o ≡ variable_named items id → IfSome o (λ v. v < length (variables_of items))
variable_is items id o e = subst (λ x. IfSome x (λ v. v < length (variables_of items))) (sym e) (number_is items id (meaning_of items id) refl)

place_is : (items : List Declaration) (id : List ℕ) (o : Option Declared) → meaning_of items id ≡ o → IfSome (option_and_then partition_place o) (λ p. IsSome (base_expr items p))
place_is items id None e = tt
place_is items id (Some (declared.Named place)) e = tt
place_is items id (Some (declared.Partition place)) e =
    let there = found_declared items id (declared.Partition place) e in
    subst (λ d. IsSome (option_and_then base_of d)) (sym there.4) refl
place_is items id (Some (declared.Variable number)) e = tt
place_is items id (Some (declared.Constant c)) e = tt

-- a partition that is named is one of the declarations
pub partition_is : (items : List Declaration) (id : List ℕ) (o : Option ℕ) → o ≡ partition_named items id → IfSome o (λ p. IsSome (base_expr items p))
partition_is items id o e = subst (λ x. IfSome x (λ p. IsSome (base_expr items p))) (sym e) (place_is items id (meaning_of items id) refl)

-- what has constants is an enumeration or a partition
declares_sort : (place index : ℕ) (d : Declaration) (id : List ℕ) → slice_get (constant_ids d) index ≡ Some id → IsSome (sort_at place d)
declares_sort place index (declarations.Named own name (bodies.Plain e) at) id h = cc
declares_sort place index (declarations.Named own name (bodies.Finite constants) at) id h = refl
declares_sort place index (declarations.Named own name (bodies.Cyclic constants) at) id h = refl
declares_sort place index (declarations.Variable own name sort at) id h = cc
declares_sort place index (declarations.Partition own name sort elements at) id h = refl

sort_there : (c : ConstantRef) (o : Option Declaration) (id : List ℕ) → option_and_then (λ d. slice_get (constant_ids d) c.index) o ≡ Some id → IsSome (option_and_then (sort_at c.declaration) o)
sort_there c None id h = cc
sort_there c (Some d) id h = declares_sort c.declaration c.index d id h

ref_is : (items : List Declaration) (id : List ℕ) (o : Option Declared) → meaning_of items id ≡ o → IfSome (option_and_then constant_ref o) (λ c. IsConstant items c × IsSome (sort_of_constant items c))
ref_is items id None e = tt
ref_is items id (Some (declared.Named place)) e = tt
ref_is items id (Some (declared.Partition place)) e = tt
ref_is items id (Some (declared.Variable number)) e = tt
ref_is items id (Some (declared.Constant c)) e =
    let there = found_declared items id (declared.Constant c) e in
    (subst IsSome (sym there) refl, sort_there c (slice_get items c.declaration) id there)

-- a constant that is named is declared, by an enumeration or a partition
pub constant_is : (items : List Declaration) (id : List ℕ) (o : Option ConstantRef) → o ≡ constant_named items id → IfSome o (λ c. IsConstant items c × IsSome (sort_of_constant items c))
constant_is items id o e = subst (λ x. IfSome x (λ c. IsConstant items c × IsSome (sort_of_constant items c))) (sym e) (ref_is items id (meaning_of items id) refl)
