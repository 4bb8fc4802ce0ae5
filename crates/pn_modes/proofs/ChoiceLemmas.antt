-- Which lists are choices of a value of each carrier, and that they ascend.
use Rattle.std.proofs.Common.{◌≡◌, ℕ, zero, suc, ◌+◌, ◌*◌, List, [], ◌∷◌, map, length, Some, refl, sym, ap, ◌∙◌, subst, arith}
use Rattle.std.specs.List.{slice_get, AllByRecursion, Contains}
use Rattle.std.specs.List.Sorted.{IsStrictlySortedBy}
use Rattle.std.specs.Cmp.Lexicographic.{slice_cmp}
use Rattle.std.specs.Option.{option_map}
use Rattle.std.specs.Ordering.{nat_cmp}
use Rattle.std.specs.declared.cmp.Ordering.{Ordering}
use Rattle.std.specs.declared.cmp.Ordering.TheVariants.{Less}
use Rattle.std.proofs.lemmas.Bool.Decides.{nat_tests}
use Rattle.std.proofs.lemmas.Option.{slice_get-map}
use Rattle.pn_facts.proofs.Contained.{at_contains, contains_at}
use Rattle.pn_carriers.specs.Carriers.{carrier, carrier_layer, choices}
use Rattle.pn_carriers.proofs.ChoiceLemmas.{choice_place, split_choice}
use Rattle.pn_carriers.proofs.OrderLemmas.{in_order}
use Rattle.pn_carriers.proofs.ValueLemmas.{out-tuple}
use Rattle.pn_values.specs.declared.sort.Sort.{Sort}
use Rattle.pn_values.specs.declared.sort.Sort.TheOpen as layer
use Rattle.pn_values.specs.declared.sort.Sort.TheViews.{roll-Sort}
use Rattle.pn_values.specs.declared.sort.Sort.TheFolds.{fold-roll-Sort}
use Rattle.pn_values.specs.declared.value.Value.{Value}
use Rattle.pn_values.specs.declared.value.Value.TheOpen as value_layer
use Rattle.pn_values.specs.declared.value.Value.TheVariants as values
use Rattle.pn_values.specs.declared.value.Value.TheViews.{out-Value}
use Rattle.pn_values.specs.Order.{layer_cmp, value_cmp}
use Rattle.pn_values.specs.OrderLaws.{value_cmp-out}
use Rattle.pn_modes.specs.Carriers.{IsChoice}

pub choice_of : (cs : List (List Value)) (vs : List Value) → Contains (choices cs) vs → IsChoice cs vs
choice_of [] vs h = let p = at_contains ([] ∷ []) vs h in none p.0 p.1
  where
    none : (k : ℕ) → slice_get ([] ∷ []) k ≡ Some vs → IsChoice [] vs
    none zero is = let same : [] ≡ vs = cc in subst (IsChoice []) same tt
    none (suc k) is = absurd cc
choice_of (c ∷ cs) vs h =
    let p = at_contains (choices (c ∷ cs)) vs h in
    let s = split_choice c cs p.0 vs p.1 in
    subst (IsChoice (c ∷ cs)) (sym s.is) (contains_at c s.q s.v s.first, choice_of cs s.ws (contains_at (choices cs) s.r s.ws s.rest))

pub of_choice : (cs : List (List Value)) (vs : List Value) → IsChoice cs vs → Contains (choices cs) vs
of_choice [] [] h = (zero, omega arith, refl)
of_choice [] (v ∷ vs) h = absurd h
of_choice (c ∷ cs) [] h = absurd h
of_choice (c ∷ cs) (v ∷ vs) h =
    let q = at_contains c v h.0 in
    let r = at_contains (choices cs) vs (of_choice cs vs h.1) in
    contains_at (choices (c ∷ cs)) (q.0 * length (choices cs) + r.0) (v ∷ vs) (choice_place c cs q.0 r.0 v vs q.1 r.1)

-- ---- in order

each_place : {X : Type 0} (P : X → Type 0) (xs : List X) → ((k : ℕ) (x : X) → slice_get xs k ≡ Some x → P x) → AllByRecursion P xs
each_place P [] f = tt
each_place P (x ∷ xs) f = (f 0 x refl, each_place P xs (λ k y is. f (suc k) y is))

-- a list ascends where the order is that of places
ascends_by_place : {X : Type 0} (cmp : X → X → Ordering) (xs : List X) → ((i j : ℕ) (x y : X) → slice_get xs i ≡ Some x → slice_get xs j ≡ Some y → cmp x y ≡ nat_cmp i j) → IsStrictlySortedBy cmp xs
unfolding IsStrictlySortedBy
ascends_by_place cmp [] f = tt
ascends_by_place cmp (x ∷ xs) f = (each_place (λ y. cmp x y ≡ Less) xs (λ k y is. f 0 (suc k) x y refl is ∙ first k), ascends_by_place cmp xs (λ i j a b at to. f (suc i) (suc j) a b at to ∙ both i j))
  where
    first : (k : ℕ) → nat_cmp 0 (suc k) ≡ Less
    first k = grind (arith, nat_tests)

    both : (i j : ℕ) → nat_cmp (suc i) (suc j) ≡ nat_cmp i j
    both i j = grind (arith, nat_tests)

product_carrier : (widths : List ℕ) (sorts : List Sort) → carrier widths (roll-Sort (layer.Product sorts)) ≡ map values.Tuple (choices (map (carrier widths) sorts))
product_carrier widths sorts = fold-roll-Sort (List Value) (carrier_layer widths) (layer.Product sorts)

tuple_at : (widths : List ℕ) (sorts : List Sort) (k : ℕ) (vs : List Value) → slice_get (choices (map (carrier widths) sorts)) k ≡ Some vs → slice_get (carrier widths (roll-Sort (layer.Product sorts))) k ≡ Some (values.Tuple vs)
tuple_at widths sorts k vs is =
    ap (λ l. slice_get l k) (product_carrier widths sorts) ∙ slice_get-map values.Tuple (choices (map (carrier widths) sorts)) k ∙ ap (option_map values.Tuple) is

tuples_cmp : (us vs : List Value) → value_cmp (values.Tuple us) (values.Tuple vs) ≡ slice_cmp value_cmp us vs
tuples_cmp us vs =
    value_cmp-out (values.Tuple us) (values.Tuple vs) ∙ ap (λ l. layer_cmp value_cmp l (out-Value (values.Tuple vs))) (out-tuple us) ∙ ap (layer_cmp value_cmp (value_layer.Tuple us)) (out-tuple vs)

-- the choices of values of these sorts ascend as lists of values
pub choices_ascend : (widths : List ℕ) (sorts : List Sort) → IsStrictlySortedBy (slice_cmp value_cmp) (choices (map (carrier widths) sorts))
choices_ascend widths sorts =
    ascends_by_place (slice_cmp value_cmp) (choices (map (carrier widths) sorts))
    (λ i j us vs at to. sym (tuples_cmp us vs) ∙ in_order widths (roll-Sort (layer.Product sorts)) i j (values.Tuple us) (values.Tuple vs) (tuple_at widths sorts i us at) (tuple_at widths sorts j vs to))
