-- The choice at a place, part by part from the last on.
use Rattle.std.proofs.Common.{◌≡◌, ℕ, zero, suc, ◌+◌, ◌*◌, ◌/◌, ◌%◌, ◌^◌, ◌<◌, ◌≤◌, min, true, ◌&&◌, List, [], ◌∷◌, ◌++◌, map, length, drop, get_or, reverse, Some, Fits, w32, w64, FitsSigned, ℤ, pos, ◌+ℤ◌, int_le, sym, ap, ◌∙◌, subst, arith}
use Rattle.std.specs.List.{slice_get, list_all}
use Rattle.std.proofs.lemmas.Int.{ints}
use Rattle.std.proofs.lemmas.List.{reverse-append}
use Rattle.std.proofs.Math.Arith.{mod-mul}
use Rattle.std.proofs.Math.Nat.{div-div-eq-div-mul, div-le_self, div-eq_of_lt, mod-eq_of_lt}
use Rattle.pn_facts.proofs.Lists.{list_all_get}
use Rattle.pn_values.specs.declared.sort.Sort.{Sort}
use Rattle.pn_values.specs.declared.value.Value.{Value}
use Rattle.pn_carriers.specs.Carriers.{is_finite, count_between, choices, carrier}
use Rattle.pn_carriers.proofs.NumberLemmas.{by_le, between}
use Rattle.pn_facts.proofs.Lists.{drop_next}
use Rattle.pn_carriers.proofs.ChoiceLemmas.{length_choices, choice_place}

first_factor : (a b : ℕ) → 0 < a * b → 0 < a
first_factor zero b h = omega arith
first_factor (suc a) b h = omega arith

second_factor : (a b : ℕ) → 0 < a * b → 0 < b
second_factor a zero h = omega arith
second_factor a (suc b) h = omega arith

-- where a product has values, so have its last parts
last_some : (widths : List ℕ) (parts : List Sort) (i : ℕ) → 0 < length (choices (map (carrier widths) parts)) → 0 < length (choices (map (carrier widths) (drop i parts)))
last_some widths parts zero h = h
last_some widths [] (suc i) h = h
last_some widths (part ∷ parts) (suc i) h =
    last_some widths parts i
    (second_factor (length (carrier widths part)) (length (choices (map (carrier widths) parts))) (omega (arith, length_choices (carrier widths part) (map (carrier widths) parts))))

part_some : (widths : List ℕ) (parts : List Sort) (i : ℕ) (part : Sort) → 0 < length (choices (map (carrier widths) parts)) → i < length parts → part ≡ get_or parts i part
    → 0 < length (carrier widths part)
part_some widths parts i part h lt is =
    let split = ap (λ ps. length (choices (map (carrier widths) ps))) (drop_next parts i part lt is) ∙ length_choices (carrier widths part) (map (carrier widths) (drop (i + 1) parts)) in
    first_factor (length (carrier widths part)) (length (choices (map (carrier widths) (drop (i + 1) parts)))) (omega (arith, last_some widths parts i h))

-- a capped divisor makes no difference to a number below the cap
digit : (here count above : ℕ) → count ≡ min here (2 ^ 64) → above < 2 ^ 64 → (above % count ≡ above % here) × (above / count ≡ above / here)
digit here count above is few =
    by_le here (2 ^ 64)
    (λ (w : here ≤ 2 ^ 64). let same : count ≡ here = omega arith in (ap (λ n. above % n) same, ap (λ n. above / n) same))
    (λ (w : 2 ^ 64 < here).
    let below : above < count = omega arith in
    let beneath : above < here = omega arith in
    (mod-eq_of_lt below ∙ sym (mod-eq_of_lt beneath), div-eq_of_lt below ∙ sym (div-eq_of_lt beneath)))

-- what is known before the later parts: what is left of the place, and the choice of those parts, last value first
pub record BehindParts (widths : List ℕ) (later : List Sort) (k above : ℕ) (values : List Value) : Type 0 where
  pub quotient : above ≡ k / length (choices (map (carrier widths) later))
  pub stands : slice_get (choices (map (carrier widths) later)) (k % length (choices (map (carrier widths) later))) ≡ Some (reverse values)

behind_part : (widths : List ℕ) (part : Sort) (later : List Sort) (k above digit : ℕ) (v : Value) (values : List Value)
    → 0 < length (carrier widths part) → 0 < length (choices (map (carrier widths) later)) → digit ≡ above % length (carrier widths part) → slice_get (carrier widths part) digit ≡ Some v
    → BehindParts widths later k above values → BehindParts widths (part ∷ later) k (above / length (carrier widths part)) (values ++ v ∷ [])
behind_part widths part later k above digit v values some some_later is at b =
    let here = length (carrier widths part) in
    let after = length (choices (map (carrier widths) later)) in
    let count : length (choices (map (carrier widths) (part ∷ later))) ≡ here * after = length_choices (carrier widths part) (map (carrier widths) later) in
    let place : k % length (choices (map (carrier widths) (part ∷ later))) ≡ digit * after + k % after =
    ap (λ n. k % n) count ∙ mod-mul k some some_later ∙ ap (λ n. n % here * after + k % after) (sym b.quotient) ∙ ap (λ n. n * after + k % after) (sym is) in
    let swapped : after * here ≡ here * after = omega arith in
    record {
      quotient = ap (λ n. n / here) b.quotient ∙ div-div-eq-div-mul k after here ∙ ap (λ n. k / n) (swapped ∙ sym count);
      stands =
          ap (slice_get (choices (map (carrier widths) (part ∷ later)))) place
          ∙ choice_place (carrier widths part) (map (carrier widths) later) digit (k % after) v (reverse values) at b.stands
          ∙ ap Some (sym (reverse-append values (v ∷ [])));
    }

module _ (widths : List ℕ) (parts : List Sort) (k : ℕ) (below : k < length (choices (map (carrier widths) parts))) (few : k < 2 ^ 64) (left above : ℕ) (values : List Value) (b : BehindParts widths (drop left parts) k above values) where
  above_few : above < 2 ^ 64
  above_few = omega (arith, b.quotient, div-le_self k (length (choices (map (carrier widths) (drop left parts)))))

  -- the step of the loop over the parts of a product
  pub behind_next : (i : ℕ) (part : Sort) (count digit_here : ℕ) (v : Value) → i + 1 ≡ left → i < length parts → part ≡ get_or parts i part → count ≡ min (length (carrier widths part)) (2 ^ 64)
      → digit_here ≡ above % count → slice_get (carrier widths part) digit_here ≡ Some v → BehindParts widths (drop i parts) k (above / count) (values ++ v ∷ [])
  behind_next i part count digit_here v next lt is count_is digit_is at =
      let d = digit (length (carrier widths part)) count above count_is above_few in
      let some = part_some widths parts i part (omega arith) lt is in
      let later : BehindParts widths (drop (i + 1) parts) k above values = subst (λ n. BehindParts widths (drop n parts) k above values) (sym next) b in
      subst (λ ps. BehindParts widths ps k (above / count) (values ++ v ∷ [])) (sym (drop_next parts i part lt is))
      (subst (λ n. BehindParts widths (part ∷ drop (i + 1) parts) k n (values ++ v ∷ [])) (sym d.1)
      (behind_part widths part (drop (i + 1) parts) k above digit_here v values some (last_some widths parts (i + 1) (omega arith)) (digit_is ∙ d.0) at later))

  -- the digit of a part is a place in its carrier
  pub digit_within : (i : ℕ) (part : Sort) (count : ℕ) → i < length parts → part ≡ get_or parts i part → count ≡ min (length (carrier widths part)) (2 ^ 64)
      → (0 < count) × (above % count < length (carrier widths part)) × (above % count < 2 ^ 64)
  digit_within i part count lt is count_is =
      let some = part_some widths parts i part (omega arith) lt is in
      let positive : 0 < count = omega arith in
      (positive, omega arith, omega arith)

  pub behind_all : left ≡ 0 → slice_get (choices (map (carrier widths) parts)) k ≡ Some (reverse values)
  behind_all none =
      let whole : BehindParts widths parts k above values = subst (λ n. BehindParts widths (drop n parts) k above values) none b in
      ap (slice_get (choices (map (carrier widths) parts))) (sym (mod-eq_of_lt below)) ∙ whole.stands

pub part_finite : (parts : List Sort) (i : ℕ) (part : Sort) → list_all is_finite parts ≡ true → i < length parts → part ≡ get_or parts i part → is_finite part ≡ true
part_finite parts i part f lt is = ap is_finite is ∙ list_all_get is_finite parts i part lt f

-- a constant's place fits 32 bits
pub constant_fits : (k width count : ℕ) → k < count → count ≡ width → Fits w32 width → Fits w32 k
constant_fits k width count lt is fits = omega arith

in_between : (start end z : ℤ) → FitsSigned w64 start → FitsSigned w64 end → (int_le start z && int_le z end) ≡ true → FitsSigned w64 z
in_between start end z low high h = grind (arith, ints)

-- a number of a range fits 64 bits
pub number_fits : (start end : ℤ) (k : ℕ) → FitsSigned w64 start → FitsSigned w64 end → k < count_between start end → FitsSigned w64 (start +ℤ pos k)
number_fits start end k low high lt = in_between start end (start +ℤ pos k) low high (between start end k lt)
