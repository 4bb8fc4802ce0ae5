-- The carrier of a sort and its test agree: by induction over sorts.
use Rattle.std.proofs.Common.{◌≡◌, ℕ, zero, suc, ◌+◌, ◌*◌, ◌<◌, nat_lt, Bool, true, false, ◌&&◌, List, [], ◌∷◌, map, length, ℤ, pos, ◌+ℤ◌, ◌-ℤ◌, nat_abs, int_le, Some, refl, sym, ap, ◌∙◌, subst, arith}
use Rattle.std.specs.List.{slice_get, range_with_len, list_all}
use Rattle.std.proofs.lemmas.Bool.{false≢true}
use Rattle.std.proofs.lemmas.Bool.Decides.{nat_tests}
use Rattle.pn_values.specs.declared.sort.Sort.{Sort}
use Rattle.pn_values.specs.declared.sort.Sort.TheOpen as layer
use Rattle.pn_values.specs.declared.sort.Sort.TheViews.{roll-Sort}
use Rattle.pn_values.specs.declared.sort.Sort.TheFolds.{map-Sort, fold-roll-Sort, ind-Sort}
use Rattle.pn_values.specs.declared.value.Value.{Value}
use Rattle.pn_values.specs.declared.value.Value.TheVariants as values
use Rattle.pn_values.specs.declared.value.Value.TheViews.{out-Value}
use Rattle.pn_carriers.specs.Carriers.{is_finite_layer, is_finite, width_of, constants, count_between, numbers_between, choices, carrier_layer, carrier}
use Rattle.pn_carriers.specs.Members.{is_dot, is_truth, is_constant, is_between, pass_each, is_tuple_of, is_member_layer, is_member}
use Rattle.pn_facts.proofs.Truths.{and_left, and_right, and_both}
use Rattle.pn_carriers.proofs.NumberLemmas.{within, far, between, same_step}
use Rattle.pn_carriers.proofs.PlaceLemmas.{mapped, map_place, range_place, range_at}
use Rattle.pn_carriers.proofs.ChoiceLemmas.{choice_place, split_choice}
use Rattle.pn_carriers.proofs.ValueLemmas.{out-dot, out-bool, out-const, out-int, out-tuple, dot_is, truth_is, constant_is, number_is, tuple_is, same_truth, same_constant, same_number, same_tuple}

-- each value that passes the test has a place in the list, each value in the list passes it, and none stands twice
pub record Agrees (finite : Bool) (test : Value → Bool) (all : List Value) : Type 0 where
  pub placed : finite ≡ true → (v : Value) → test v ≡ true → (k : ℕ) × (slice_get all k ≡ Some v)
  pub member : (k : ℕ) (v : Value) → slice_get all k ≡ Some v → test v ≡ true
  pub once : (i j : ℕ) (v : Value) → slice_get all i ≡ Some v → slice_get all j ≡ Some v → i ≡ j

abbrev AgreesAt : List ℕ → Sort → Type 0
AgreesAt widths s = Agrees (is_finite s) (is_member widths s) (carrier widths s)

none_agree : (test : Value → Bool) → Agrees false test []
none_agree test = record {
  placed = λ f v h. absurd (false≢true f);
  member = λ k v h. absurd cc;
  once = λ i j v h g. absurd cc;
}

dot_member : (k : ℕ) (v : Value) → slice_get (values.Dot ∷ []) k ≡ Some v → is_dot (out-Value v) ≡ true
dot_member zero v h = let same : values.Dot ≡ v = cc in subst (λ u. is_dot (out-Value u) ≡ true) same (ap is_dot out-dot)
dot_member (suc k) v h = absurd cc

dot_once : (i j : ℕ) (v : Value) → slice_get (values.Dot ∷ []) i ≡ Some v → slice_get (values.Dot ∷ []) j ≡ Some v → i ≡ j
dot_once zero zero v h g = refl
dot_once zero (suc j) v h g = absurd cc
dot_once (suc i) j v h g = absurd cc

dot_agree : Agrees true (λ v. is_dot (out-Value v)) (values.Dot ∷ [])
dot_agree = record {
  placed = λ f v h. (0, ap Some (sym (dot_is v h)));
  member = dot_member;
  once = dot_once;
}

truth_place_at : (b : Bool) → (k : ℕ) × (slice_get (values.Bool false ∷ values.Bool true ∷ []) k ≡ Some (values.Bool b))
truth_place_at false = (0, refl)
truth_place_at true = (1, refl)

truth_placed : (v : Value) → (b : Bool) × (v ≡ values.Bool b) → (k : ℕ) × (slice_get (values.Bool false ∷ values.Bool true ∷ []) k ≡ Some v)
truth_placed v s = let p = truth_place_at s.0 in (p.0, p.1 ∙ ap Some (sym s.1))

truth_member : (k : ℕ) (v : Value) → slice_get (values.Bool false ∷ values.Bool true ∷ []) k ≡ Some v → is_truth (out-Value v) ≡ true
truth_member zero v h = let same : values.Bool false ≡ v = cc in subst (λ u. is_truth (out-Value u) ≡ true) same (ap is_truth (out-bool false))
truth_member (suc zero) v h = let same : values.Bool true ≡ v = cc in subst (λ u. is_truth (out-Value u) ≡ true) same (ap is_truth (out-bool true))
truth_member (suc (suc k)) v h = absurd cc

truth_once : (i j : ℕ) (v : Value) → slice_get (values.Bool false ∷ values.Bool true ∷ []) i ≡ Some v → slice_get (values.Bool false ∷ values.Bool true ∷ []) j ≡ Some v → i ≡ j
truth_once zero zero v h g = refl
truth_once zero (suc zero) v h g = let same : values.Bool false ≡ values.Bool true = cc in absurd (false≢true (same_truth false true same))
truth_once zero (suc (suc j)) v h g = absurd cc
truth_once (suc zero) zero v h g = let same : values.Bool false ≡ values.Bool true = cc in absurd (false≢true (same_truth false true same))
truth_once (suc zero) (suc zero) v h g = refl
truth_once (suc zero) (suc (suc j)) v h g = absurd cc
truth_once (suc (suc i)) j v h g = absurd cc

truth_agree : Agrees true (λ v. is_truth (out-Value v)) (values.Bool false ∷ values.Bool true ∷ [])
truth_agree = record {
  placed = λ f v h. truth_placed v (truth_is v h);
  member = truth_member;
  once = truth_once;
}

pub constant_place : (width c : ℕ) → c < width → slice_get (constants width) c ≡ Some (values.Const c)
constant_place width c h = map_place values.Const (range_with_len 0 width) c c (range_place 0 width c h ∙ ap Some (omega arith))

pub constant_at : (width k : ℕ) (v : Value) → slice_get (constants width) k ≡ Some v → (k < width) × (v ≡ values.Const k)
constant_at width k v h =
    let m = mapped values.Const (range_with_len 0 width) k v h in
    let at = range_at width k m.0 m.1 in
    (at.0, m.2 ∙ ap values.Const at.1)

constant_passes : (width k : ℕ) → k < width → is_constant width (out-Value (values.Const k)) ≡ true
constant_passes width k h = ap (is_constant width) (out-const k) ∙ lt
  where
    lt : nat_lt k width ≡ true
    lt = grind (arith, nat_tests)

constants_agree : (width : ℕ) → Agrees true (λ v. is_constant width (out-Value v)) (constants width)
constants_agree width = record {
  placed = λ f v h. let c = constant_is width v h in (c.0, constant_place width c.0 c.1 ∙ ap Some (sym c.2));
  member = λ k v h. let at = constant_at width k v h in subst (λ u. is_constant width (out-Value u) ≡ true) (sym at.1) (constant_passes width k at.0);
  once = λ i j v h g. same_constant i j (sym (constant_at width i v h).1 ∙ (constant_at width j v g).1);
}

pub number_place : (start end : ℤ) (k : ℕ) → k < count_between start end → slice_get (numbers_between start end) k ≡ Some (values.Int (start +ℤ pos k))
number_place start end k h =
    map_place (λ n. values.Int (start +ℤ pos n)) (range_with_len 0 (count_between start end)) k k (range_place 0 (count_between start end) k h ∙ ap Some (omega arith))

pub number_at : (start end : ℤ) (k : ℕ) (v : Value) → slice_get (numbers_between start end) k ≡ Some v → (k < count_between start end) × (v ≡ values.Int (start +ℤ pos k))
number_at start end k v h =
    let m = mapped (λ n. values.Int (start +ℤ pos n)) (range_with_len 0 (count_between start end)) k v h in
    let at = range_at (count_between start end) k m.0 m.1 in
    (at.0, m.2 ∙ ap (λ n. values.Int (start +ℤ pos n)) at.1)

-- where a number stands among those from `start` on
pub number_placed : (start end z : ℤ) → (int_le start z && int_le z end) ≡ true → slice_get (numbers_between start end) (nat_abs (z -ℤ start)) ≡ Some (values.Int z)
number_placed start end z h = number_place start end (nat_abs (z -ℤ start)) (within start end z h) ∙ ap (λ y. Some (values.Int y)) (far start end z h)

numbers_agree : (start end : ℤ) → Agrees true (λ v. is_between start end (out-Value v)) (numbers_between start end)
numbers_agree start end = record {
  placed = λ f v h. let z = number_is start end v h in (nat_abs (z.0 -ℤ start), number_placed start end z.0 z.1 ∙ ap Some (sym z.2));
  member = λ k v h.
      let at = number_at start end k v h in
      subst (λ u. is_between start end (out-Value u) ≡ true) (sym at.1) (ap (is_between start end) (out-int (start +ℤ pos k)) ∙ between start end k at.0);
  once = λ i j v h g. same_step start i j (same_number (start +ℤ pos i) (start +ℤ pos j) (sym (number_at start end i v h).1 ∙ (number_at start end j v g).1));
}

module _ (widths : List ℕ) where
  abbrev Part : Type 0
  Part = (s : Sort) × AgreesAt widths s

  abbrev sorts_of : List Part → List Sort
  sorts_of es = map (λ e. e.0) es

  abbrev tuples_of : List Part → List (List Value)
  tuples_of es = choices (map (carrier widths) (sorts_of es))

  abbrev tests_of : List Part → List (Value → Bool)
  tests_of es = map (is_member widths) (sorts_of es)

  choices_placed : (es : List Part) → list_all (λ p. p) (map is_finite (sorts_of es)) ≡ true → (vs : List Value) → pass_each (tests_of es) vs ≡ true
      → (k : ℕ) × (slice_get (tuples_of es) k ≡ Some vs)
  choices_placed [] f [] h = (0, refl)
  choices_placed [] f (v ∷ vs) h = absurd (false≢true h)
  choices_placed (e ∷ es) f [] h = absurd (false≢true h)
  choices_placed (e ∷ es) f (v ∷ vs) h =
      let here = e.1.placed (and_left (is_finite e.0) (list_all (λ p. p) (map is_finite (sorts_of es))) f) v (and_left (is_member widths e.0 v) (pass_each (tests_of es) vs) h) in
      let rest = choices_placed es (and_right (is_finite e.0) (list_all (λ p. p) (map is_finite (sorts_of es))) f) vs (and_right (is_member widths e.0 v) (pass_each (tests_of es) vs) h) in
      (here.0 * length (tuples_of es) + rest.0, choice_place (carrier widths e.0) (map (carrier widths) (sorts_of es)) here.0 rest.0 v vs here.1 rest.1)

  choices_member : (es : List Part) (k : ℕ) (vs : List Value) → slice_get (tuples_of es) k ≡ Some vs → pass_each (tests_of es) vs ≡ true
  choices_member [] zero vs h = let same : [] ≡ vs = cc in subst (λ us. pass_each [] us ≡ true) same refl
  choices_member [] (suc k) vs h = absurd cc
  choices_member (e ∷ es) k vs h =
      let s = split_choice (carrier widths e.0) (map (carrier widths) (sorts_of es)) k vs h in
      subst (λ us. pass_each (tests_of (e ∷ es)) us ≡ true) (sym s.is)
      (and_both (is_member widths e.0 s.v) (pass_each (tests_of es) s.ws) (e.1.member s.q s.v s.first) (choices_member es s.r s.ws s.rest))

  choices_once : (es : List Part) (i j : ℕ) (vs : List Value) → slice_get (tuples_of es) i ≡ Some vs → slice_get (tuples_of es) j ≡ Some vs → i ≡ j
  choices_once [] zero zero vs h g = refl
  choices_once [] zero (suc j) vs h g = absurd cc
  choices_once [] (suc i) j vs h g = absurd cc
  choices_once (e ∷ es) i j vs h g =
      let s = split_choice (carrier widths e.0) (map (carrier widths) (sorts_of es)) i vs h in
      let t = split_choice (carrier widths e.0) (map (carrier widths) (sorts_of es)) j vs g in
      let whole : s.v ∷ s.ws ≡ t.v ∷ t.ws = sym s.is ∙ t.is in
      let head : s.v ≡ t.v = cc in
      let tail : s.ws ≡ t.ws = cc in
      let q : s.q ≡ t.q = e.1.once s.q t.q t.v (s.first ∙ ap Some head) t.first in
      let r : s.r ≡ t.r = choices_once es s.r t.r t.ws (s.rest ∙ ap Some tail) t.rest in
      s.place ∙ ap (λ n. n * length (tuples_of es) + s.r) q ∙ ap (λ n. t.q * length (tuples_of es) + n) r ∙ sym t.place

  tuples_agree : (es : List Part) → Agrees (list_all (λ p. p) (map is_finite (sorts_of es))) (λ v. is_tuple_of (tests_of es) (out-Value v)) (map values.Tuple (tuples_of es))
  tuples_agree es = record {
    placed = λ f v h.
        let t = tuple_is (tests_of es) v h in
        let p = choices_placed es f t.0 t.1 in
        (p.0, map_place values.Tuple (tuples_of es) p.0 t.0 p.1 ∙ ap Some (sym t.2));
    member = λ k v h.
        let m = mapped values.Tuple (tuples_of es) k v h in
        subst (λ u. is_tuple_of (tests_of es) (out-Value u) ≡ true) (sym m.2) (ap (is_tuple_of (tests_of es)) (out-tuple m.0) ∙ choices_member es k m.0 m.1);
    once = λ i j v h g.
        let m = mapped values.Tuple (tuples_of es) i v h in
        let n = mapped values.Tuple (tuples_of es) j v g in
        choices_once es i j n.0 (m.1 ∙ ap Some (same_tuple m.0 n.0 (sym m.2 ∙ n.2))) n.1;
  }

  by_layer : (x : layer.Sort-F Sort) → Agrees (is_finite_layer (map-Sort Sort Bool is_finite x)) (λ v. is_member_layer widths (map-Sort Sort (Value → Bool) (is_member widths) x) (out-Value v)) (carrier_layer widths (map-Sort Sort (List Value) (carrier widths) x))
      → AgreesAt widths (roll-Sort x)
  by_layer x h =
      subst (λ f. Agrees f (is_member widths (roll-Sort x)) (carrier widths (roll-Sort x))) (sym (fold-roll-Sort Bool is_finite_layer x))
      (subst (λ t. Agrees (is_finite_layer (map-Sort Sort Bool is_finite x)) t (carrier widths (roll-Sort x))) (sym (fold-roll-Sort (Value → Bool) (λ sort v. is_member_layer widths sort (out-Value v)) x))
      (subst (λ a. Agrees (is_finite_layer (map-Sort Sort Bool is_finite x)) (λ v. is_member_layer widths (map-Sort Sort (Value → Bool) (is_member widths) x) (out-Value v)) a) (sym (fold-roll-Sort (List Value) (carrier_layer widths) x)) h))

  step : (y : layer.Sort-F Part) → AgreesAt widths (roll-Sort (map-Sort Part Sort (λ e. e.0) y))
  step layer.Dot = by_layer layer.Dot dot_agree
  step layer.Bool = by_layer layer.Bool truth_agree
  step (layer.Enumeration n) = by_layer (layer.Enumeration n) (constants_agree (width_of widths n))
  step (layer.Partition n) = by_layer (layer.Partition n) (constants_agree (width_of widths n))
  step (layer.Range start end) = by_layer (layer.Range start end) (numbers_agree start end)
  step (layer.Product es) = by_layer (layer.Product (sorts_of es)) (tuples_agree es)
  step layer.Integer = by_layer layer.Integer (none_agree _)
  step layer.Natural = by_layer layer.Natural (none_agree _)
  step layer.Positive = by_layer layer.Positive (none_agree _)
  step layer.Text = by_layer layer.Text (none_agree _)
  step (layer.List e) = by_layer (layer.List e.0) (none_agree _)

  -- what holds of each sort
  pub agrees : (s : Sort) → AgreesAt widths s
  agrees = ind-Sort (AgreesAt widths) (λ x y is. subst (λ z. AgreesAt widths (roll-Sort z)) is (step y))

-- a value in the carrier is of the sort
pub member_at : (widths : List ℕ) (s : Sort) (k : ℕ) (v : Value) → slice_get (carrier widths s) k ≡ Some v → is_member widths s v ≡ true
member_at widths s k v h = (agrees widths s).member k v h

-- no other place has the value
pub only_at : (widths : List ℕ) (s : Sort) (all : List Value) (v : Value) (o : ℕ) → carrier widths s ≡ all → slice_get all o ≡ Some v → (k : ℕ) → slice_get (carrier widths s) k ≡ Some v → k ≡ o
only_at widths s all v o is at k h = (agrees widths s).once k o v h (ap (λ vs. slice_get vs o) is ∙ at)
