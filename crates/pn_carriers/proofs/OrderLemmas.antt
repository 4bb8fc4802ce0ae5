-- The order of values on one sort is that of their places.
use Rattle.std.proofs.Common.{◌≡◌, ℕ, zero, suc, ◌+◌, ◌*◌, ◌<◌, ◌≤◌, Bool, true, false, List, [], ◌∷◌, map, length, ℤ, pos, ◌+ℤ◌, Some, sym, ap, ◌∙◌, subst, arith}
use Rattle.std.specs.List.{slice_get}
use Rattle.std.specs.Cmp.Lexicographic.{slice_cmp}
use Rattle.std.specs.Ordering.{ordering_then, nat_cmp, int_cmp, bool_cmp}
use Rattle.std.specs.declared.cmp.Ordering.TheVariants.{Less, Equal, Greater}
use Rattle.std.proofs.lemmas.Bool.Decides.{nat_tests}
use Rattle.std.proofs.lemmas.Int.{ints}
use Rattle.std.proofs.lemmas.Option.{slice_get_within}
use Rattle.std.proofs.Math.Nat.{mul-le-mul_right}
use Rattle.pn_values.specs.declared.sort.Sort.{Sort}
use Rattle.pn_values.specs.declared.sort.Sort.TheOpen as layer
use Rattle.pn_values.specs.declared.sort.Sort.TheViews.{roll-Sort}
use Rattle.pn_values.specs.declared.sort.Sort.TheFolds.{map-Sort, fold-roll-Sort, ind-Sort}
use Rattle.pn_values.specs.declared.value.Value.{Value}
use Rattle.pn_values.specs.declared.value.Value.TheOpen as value_layer
use Rattle.pn_values.specs.declared.value.Value.TheVariants as values
use Rattle.pn_values.specs.declared.value.Value.TheViews.{out-Value}
use Rattle.pn_values.specs.Order.{layer_cmp, value_cmp}
use Rattle.pn_values.specs.OrderLaws.{value_cmp-out}
use Rattle.pn_carriers.specs.Carriers.{width_of, constants, numbers_between, choices, carrier_layer, carrier}
use Rattle.pn_carriers.proofs.NumberLemmas.{by_le}
use Rattle.pn_carriers.proofs.PlaceLemmas.{mapped}
use Rattle.pn_carriers.proofs.ChoiceLemmas.{split_choice}
use Rattle.pn_carriers.proofs.ValueLemmas.{out-dot, out-bool, out-const, out-int, out-tuple}
use Rattle.pn_carriers.proofs.CarrierLemmas.{constant_at, number_at}

less : (a b : ℕ) → a < b → nat_cmp a b ≡ Less
less a b h = grind (arith, nat_tests)

greater : (a b : ℕ) → b < a → nat_cmp a b ≡ Greater
greater a b h = grind (arith, nat_tests)

equal : (a : ℕ) → nat_cmp a a ≡ Equal
equal a = grind (arith, nat_tests)

after : (left q p : ℕ) → q < p → q * left + left ≤ p * left
after left q p h =
    let next : q + 1 ≤ p = omega arith in omega (arith, mul-le-mul_right left next)

-- places are ordered by their first digit, and then by the second
digits_cmp : (left q r p s : ℕ) → r < left → s < left → ordering_then (nat_cmp q p) (nat_cmp r s) ≡ nat_cmp (q * left + r) (p * left + s)
digits_cmp left q r p s lr ls =
    by_le q p
    (λ (w : q ≤ p). by_le p q
    (λ (x : p ≤ q).
    let same : p ≡ q = omega arith in
    subst (λ n. ordering_then (nat_cmp q n) (nat_cmp r s) ≡ nat_cmp (q * left + r) (n * left + s)) (sym same) (ap (λ o. ordering_then o (nat_cmp r s)) (equal q) ∙ shifted (q * left) r s))
    (λ (x : q < p).
    let below : q * left + r < p * left + s = omega (arith, after left q p x) in ap (λ o. ordering_then o (nat_cmp r s)) (less q p x) ∙ sym (less (q * left + r) (p * left + s) below)))
    (λ (w : p < q).
    let below : p * left + s < q * left + r = omega (arith, after left p q w) in ap (λ o. ordering_then o (nat_cmp r s)) (greater q p w) ∙ sym (greater (q * left + r) (p * left + s) below))
  where
    shifted : (k r s : ℕ) → nat_cmp r s ≡ nat_cmp (k + r) (k + s)
    shifted k r s = grind (arith, nat_tests)

number_cmp : (start : ℤ) (i j : ℕ) → int_cmp (start +ℤ pos i) (start +ℤ pos j) ≡ nat_cmp i j
number_cmp start i j = grind (arith, ints, nat_tests)

-- the order at the values of a list is that of their places
abbrev pub IsInOrder : List Value → Type 0
IsInOrder all = (i j : ℕ) (u v : Value) → slice_get all i ≡ Some u → slice_get all j ≡ Some v → value_cmp u v ≡ nat_cmp i j

opened : (u v : Value) (x y : value_layer.Value-F Value) → out-Value u ≡ x → out-Value v ≡ y → value_cmp u v ≡ layer_cmp value_cmp x y
opened u v x y p q = value_cmp-out u v ∙ ap (λ l. layer_cmp value_cmp l (out-Value v)) p ∙ ap (layer_cmp value_cmp x) q

none_in_order : IsInOrder []
none_in_order i j u v h g = absurd cc

dot_in_order : IsInOrder (values.Dot ∷ [])
dot_in_order zero zero u v h g = let a : u ≡ values.Dot = cc in let b : v ≡ values.Dot = cc in opened u v value_layer.Dot value_layer.Dot (ap out-Value a ∙ out-dot) (ap out-Value b ∙ out-dot)
dot_in_order zero (suc j) u v h g = absurd cc
dot_in_order (suc i) j u v h g = absurd cc

truth_cmp : (a b : Bool) (u v : Value) → values.Bool a ≡ u → values.Bool b ≡ v → value_cmp u v ≡ bool_cmp a b
truth_cmp a b u v p q = opened u v (value_layer.Bool a) (value_layer.Bool b) (ap out-Value (sym p) ∙ out-bool a) (ap out-Value (sym q) ∙ out-bool b)

truths_in_order : IsInOrder (values.Bool false ∷ values.Bool true ∷ [])
truths_in_order zero zero u v h g = let a : values.Bool false ≡ u = cc in let b : values.Bool false ≡ v = cc in truth_cmp false false u v a b
truths_in_order zero (suc zero) u v h g = let a : values.Bool false ≡ u = cc in let b : values.Bool true ≡ v = cc in truth_cmp false true u v a b
truths_in_order zero (suc (suc j)) u v h g = absurd cc
truths_in_order (suc zero) zero u v h g = let a : values.Bool true ≡ u = cc in let b : values.Bool false ≡ v = cc in truth_cmp true false u v a b
truths_in_order (suc zero) (suc zero) u v h g = let a : values.Bool true ≡ u = cc in let b : values.Bool true ≡ v = cc in truth_cmp true true u v a b
truths_in_order (suc zero) (suc (suc j)) u v h g = absurd cc
truths_in_order (suc (suc i)) j u v h g = absurd cc

constants_in_order : (width : ℕ) → IsInOrder (constants width)
constants_in_order width i j u v h g =
    opened u v (value_layer.Const i) (value_layer.Const j) (ap out-Value (constant_at width i u h).1 ∙ out-const i) (ap out-Value (constant_at width j v g).1 ∙ out-const j)

numbers_in_order : (start end : ℤ) → IsInOrder (numbers_between start end)
numbers_in_order start end i j u v h g =
    opened u v (value_layer.Int (start +ℤ pos i)) (value_layer.Int (start +ℤ pos j)) (ap out-Value (number_at start end i u h).1 ∙ out-int (start +ℤ pos i)) (ap out-Value (number_at start end j v g).1 ∙ out-int (start +ℤ pos j))
    ∙ number_cmp start i j

module _ (widths : List ℕ) where
  abbrev InOrderAt : Sort → Type 0
  InOrderAt s = IsInOrder (carrier widths s)

  abbrev Part : Type 0
  Part = (s : Sort) × InOrderAt s

  abbrev sorts_of : List Part → List Sort
  sorts_of es = map (λ e. e.0) es

  abbrev tuples_of : List Part → List (List Value)
  tuples_of es = choices (map (carrier widths) (sorts_of es))

  choices_in_order : (es : List Part) (i j : ℕ) (us vs : List Value) → slice_get (tuples_of es) i ≡ Some us → slice_get (tuples_of es) j ≡ Some vs → slice_cmp value_cmp us vs ≡ nat_cmp i j
  choices_in_order [] zero zero us vs h g = let a : [] ≡ us = cc in let b : [] ≡ vs = cc in ap (λ ws. slice_cmp value_cmp ws vs) (sym a) ∙ ap (slice_cmp value_cmp []) (sym b)
  choices_in_order [] zero (suc j) us vs h g = absurd cc
  choices_in_order [] (suc i) j us vs h g = absurd cc
  choices_in_order (e ∷ es) i j us vs h g =
      let left = length (tuples_of es) in
      let s = split_choice (carrier widths e.0) (map (carrier widths) (sorts_of es)) i us h in
      let t = split_choice (carrier widths e.0) (map (carrier widths) (sorts_of es)) j vs g in
      ap (λ ws. slice_cmp value_cmp ws vs) s.is ∙ ap (slice_cmp value_cmp (s.v ∷ s.ws)) t.is
      ∙ ap (λ o. ordering_then o (slice_cmp value_cmp s.ws t.ws)) (e.1 s.q t.q s.v t.v s.first t.first)
      ∙ ap (ordering_then (nat_cmp s.q t.q)) (choices_in_order es s.r t.r s.ws t.ws s.rest t.rest)
      ∙ digits_cmp left s.q s.r t.q t.r (slice_get_within (tuples_of es) s.r s.ws s.rest) (slice_get_within (tuples_of es) t.r t.ws t.rest)
      ∙ ap (λ n. nat_cmp n (t.q * left + t.r)) (sym s.place) ∙ ap (nat_cmp i) (sym t.place)

  tuples_in_order : (es : List Part) → IsInOrder (map values.Tuple (tuples_of es))
  tuples_in_order es i j u v h g =
      let m = mapped values.Tuple (tuples_of es) i u h in
      let n = mapped values.Tuple (tuples_of es) j v g in
      opened u v (value_layer.Tuple m.0) (value_layer.Tuple n.0) (ap out-Value m.2 ∙ out-tuple m.0) (ap out-Value n.2 ∙ out-tuple n.0) ∙ choices_in_order es i j m.0 n.0 m.1 n.1

  by_layer : (x : layer.Sort-F Sort) → IsInOrder (carrier_layer widths (map-Sort Sort (List Value) (carrier widths) x)) → InOrderAt (roll-Sort x)
  by_layer x h = subst IsInOrder (sym (fold-roll-Sort (List Value) (carrier_layer widths) x)) h

  step : (y : layer.Sort-F Part) → InOrderAt (roll-Sort (map-Sort Part Sort (λ e. e.0) y))
  step layer.Dot = by_layer layer.Dot dot_in_order
  step layer.Bool = by_layer layer.Bool truths_in_order
  step (layer.Enumeration n) = by_layer (layer.Enumeration n) (constants_in_order (width_of widths n))
  step (layer.Partition n) = by_layer (layer.Partition n) (constants_in_order (width_of widths n))
  step (layer.Range start end) = by_layer (layer.Range start end) (numbers_in_order start end)
  step (layer.Product es) = by_layer (layer.Product (sorts_of es)) (tuples_in_order es)
  step layer.Integer = by_layer layer.Integer none_in_order
  step layer.Natural = by_layer layer.Natural none_in_order
  step layer.Positive = by_layer layer.Positive none_in_order
  step layer.Text = by_layer layer.Text none_in_order
  step (layer.List e) = by_layer (layer.List e.0) none_in_order

  -- values of one sort compare as their places do
  pub in_order : (s : Sort) → InOrderAt s
  in_order = ind-Sort InOrderAt (λ x y is. subst (λ z. InOrderAt (roll-Sort z)) is (step y))
