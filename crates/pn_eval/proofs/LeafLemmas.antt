-- Values of constants, elements of partitions and other leaves are of the sorts that the leaves have.
use Rattle.std.proofs.Common.{◌≡◌, ◌<◌, ℕ, zero, suc, List, [], ◌∷◌, Bool, true, length, refl, sym, ap, ◌∙◌, subst, Option, Some, None, slice_get, slice_index, IsSome, arith}
use Rattle.std.specs.Option.{option_and_then}
use Rattle.std.proofs.lemmas.Bool.Decides.{nat_tests}
use Rattle.std.proofs.lemmas.List.{length-map}
use Rattle.std.proofs.lemmas.Option.{none-some, same_Some, slice_get_within, option_and_then_some}
use Rattle.pn_carriers.specs.Carriers.{width_of}
use Rattle.pn_carriers.specs.Members.{IsMember, is_constant}
use Rattle.pn_carriers.proofs.KinLemmas.{own_kin}
use Rattle.pn_carriers.proofs.LayerLemmas.{member-enumeration, member-partition}
use Rattle.pn_carriers.proofs.ValueLemmas.{out-const}
use Rattle.pn_ids.specs.Names.{named_in}
use Rattle.pn_names.specs.Names.{constant_ids, constant_named, names_of, partition_named, widths_of}
use Rattle.pn_names.specs.declared.Declared.TheVariants as declared
use Rattle.pn_names.proofs.DeclaredLemmas.{constant_is, found_declared}
use Rattle.pn_resolve.specs.Meaning.{Resolves}
use Rattle.pn_resolve.specs.Standing.{base_of, elements_of}
use Rattle.pn_sorts.specs.Lookups.{IsBaseSort, IsPartOf, base_expr, sort_at, sort_of_constant}
use Rattle.pn_syntax.specs.declared.declaration.Declaration.{Declaration}
use Rattle.pn_syntax.specs.declared.declaration.Declaration.TheVariants as declarations
use Rattle.pn_syntax.specs.declared.declaration.SortBody.TheVariants as bodies
use Rattle.pn_syntax.specs.declared.declaration.PartElement.{PartElement}
use Rattle.pn_syntax.specs.declared.sort_expr.SortExpr.{SortExpr}
use Rattle.pn_syntax.specs.declared.term.Term.{Term}
use Rattle.pn_syntax.specs.declared.term.TermNode.TheVariants as nodes
use Rattle.pn_values.specs.declared.constant_ref.ConstantRef.{ConstantRef}
use Rattle.pn_terms.specs.Sorts.{Gives, HasSort, is_small}
use Rattle.pn_terms.specs.Terms.{Layer}
use Rattle.pn_terms.specs.declared.term_sort.TermSort.TheVariants as terms
use Rattle.pn_terms.proofs.SortLemmas.{base_once}
use Rattle.pn_terms.proofs.TermLemmas.{out_all}
use Rattle.pn_values.specs.Kin.{kin_of}
use Rattle.pn_values.specs.declared.sort.Sort.{Sort}
use Rattle.pn_values.specs.declared.sort.Sort.TheVariants as sorts
use Rattle.pn_values.specs.declared.value.Value.{Value}
use Rattle.pn_values.specs.declared.value.Value.TheVariants as values
use Rattle.pn_values.specs.declared.value.Value.TheViews.{out-Value}
use Rattle.pn_eval.proofs.RoundLemmas.{small_finite}

pub width_there : (items : List Declaration) (place : ℕ) (d : Declaration) → slice_get items place ≡ Some d → width_of (widths_of items) place ≡ length (constant_ids d)
width_there [] place d h = absurd (none-some d h)
width_there (x ∷ items) zero d h = ap (λ y. length (constant_ids y)) (same_Some x d h)
width_there (x ∷ items) (suc place) d h = width_there items place d h

constant_test : (width index : ℕ) → index < width → is_constant width (out-Value (values.Const index)) ≡ true
constant_test width index less = ap (is_constant width) (out-const index) ∙ grind (arith, nat_tests)

-- a place below its width is a constant of an enumeration, and of a partition
pub enumeration_has : (widths : List ℕ) (place index : ℕ) → index < width_of widths place → IsMember widths (values.Const index) (sorts.Enumeration place)
enumeration_has widths place index less = member-enumeration widths place (values.Const index) ∙ constant_test (width_of widths place) index less

pub partition_has : (widths : List ℕ) (place index : ℕ) → index < width_of widths place → IsMember widths (values.Const index) (sorts.Partition place)
partition_has widths place index less = member-partition widths place (values.Const index) ∙ constant_test (width_of widths place) index less

sort_has : (widths : List ℕ) (place index : ℕ) (d : Declaration) (sort : Sort) → index < width_of widths place → sort_at place d ≡ Some sort → IsMember widths (values.Const index) sort
sort_has widths place index (declarations.Named id name (bodies.Plain e) at) sort less is = absurd (none-some sort is)
sort_has widths place index (declarations.Named id name (bodies.Finite constants) at) sort less is = subst (IsMember widths (values.Const index)) (same_Some (sorts.Enumeration place) sort is) (enumeration_has widths place index less)
sort_has widths place index (declarations.Named id name (bodies.Cyclic constants) at) sort less is = subst (IsMember widths (values.Const index)) (same_Some (sorts.Enumeration place) sort is) (enumeration_has widths place index less)
sort_has widths place index (declarations.Variable id name e at) sort less is = absurd (none-some sort is)
sort_has widths place index (declarations.Partition id name e elements at) sort less is = subst (IsMember widths (values.Const index)) (same_Some (sorts.Partition place) sort is) (partition_has widths place index less)

-- a constant is of the enumeration or partition that declares it
pub constant_member : (items : List Declaration) (name : List ℕ) (c : ConstantRef) (sort : Sort) → constant_named items name ≡ Some c → sort_of_constant items c ≡ Some sort → IsMember (widths_of items) (values.Const c.index) sort
constant_member items name c sort named of_sort =
    let declares = found_declared items name (declared.Constant c) (constant_is (named_in (names_of items) name) c named) in
    option_and_then_some (λ (d : Declaration). slice_get (constant_ids d) c.index) (slice_get items c.declaration) name declares
    (λ d there at. option_and_then_some (sort_at c.declaration) (slice_get items c.declaration) sort of_sort
    (λ x there' is.
    let within = slice_get_within (constant_ids d) c.index name at in
    let width = width_there items c.declaration d there in
    sort_has (widths_of items) c.declaration c.index x sort (omega (arith, within, width)) is))

element_within : (d : Declaration) (e : SortExpr) (number : ℕ) (element : PartElement) → base_of d ≡ Some e → slice_get (elements_of d) number ≡ Some element → number < length (constant_ids d)
element_within (declarations.Named id name body at) e number element base is = absurd (none-some e base)
element_within (declarations.Variable id name sort at) e number element base is = absurd (none-some e base)
element_within (declarations.Partition id name sort elements at) e number element base is =
    let within = slice_get_within elements number element is in
    let same = length-map elements (λ (x : PartElement). x.id) in
    omega (arith, within, same)

-- the number of an element that lists a value is of its partition
pub element_member : (items : List Declaration) (p number : ℕ) (value : _) → IsPartOf items p value number → IsMember (widths_of items) (values.Const number) (sorts.Partition p)
element_member items p number value (base, element, (e, is_base, resolves), at, lists) =
    option_and_then_some (λ (d : Declaration). slice_get (elements_of d) number) (slice_get items p) element at
    (λ d there is. option_and_then_some base_of (slice_get items p) e is_base
    (λ x there' base_is.
    let same = same_Some x d (sym there' ∙ there) in
    let within = element_within d e number element (subst (λ y. base_of y ≡ Some e) same base_is) is in
    let width = width_there items p d there in
    partition_has (widths_of items) p number (omega (arith, within, width))))

-- the value of which an element is asked is of the base sort of its partition
pub listed_member : (items : List Declaration) (name : List ℕ) (value : Value) → (p : ℕ) × (base : Sort) × (partition_named items name ≡ Some p) × IsBaseSort items p base × IsMember (widths_of items) value base
    → (found : Option ℕ) (q : ℕ) → found ≡ partition_named items name → found ≡ Some q → (base : Sort) → IsBaseSort items q base → IsMember (widths_of items) value base
listed_member items name value (p, own, named, of_own, member) found q found_is is base of_base =
    let same = same_Some p q (sym named ∙ sym found_is ∙ is) in
    subst (IsMember (widths_of items) value) (base_once items q own base (subst (λ x. IsBaseSort items x own) same of_own) of_base) member

-- the sort of which `all` takes the values
pub record IsAllOf (items : List Declaration) (x : SortExpr) (sort : Sort) : Type 0 where
  pub small : is_small items sort ≡ true
  pub resolves : Resolves items x sort

pub all_of : (items : List Declaration) (e : Term) (x : SortExpr) (sort : Sort) → e.node ≡ nodes.All x → HasSort items e (terms.Bag sort) → IsAllOf items x sort
all_of items e x sort is (ts, have, gives) =
    let of_all = subst (λ (l : Layer). Gives items l ts (terms.Bag sort)) (out_all e.node x is) gives in
    let whole : terms.Bag sort ≡ terms.Bag of_all.0 = of_all.3 ∙ ap terms.Bag (own_kin of_all.0 (small_finite items of_all.0 of_all.2)) in
    let same : of_all.0 ≡ sort = cc in
    record { small = subst (λ s. is_small items s ≡ true) same of_all.2; resolves = subst (Resolves items x) same of_all.1 }
