-- The place of a choice, part by part from the first on.
use Rattle.std.proofs.Common.{◌≡◌, ℕ, suc, ◌+◌, ◌*◌, ◌^◌, ◌<◌, ◌≤◌, min, Bool, true, List, [], ◌∷◌, map, length, drop, get_or, Some, Fits, w64, rules, refl, sym, ap, ◌∙◌, subst, arith, length-drop}
use Rattle.std.specs.List.{slice_get, list_all}
use Rattle.std.proofs.lemmas.Bool.{false≢true}
use Rattle.std.proofs.lemmas.List.{length-map, drop_all}
use Rattle.std.proofs.lemmas.Option.{slice_get_within}
use Rattle.std.proofs.Math.Nat.{mul-le-mul_right, le-mul_of_pos_right}
use Rattle.pn_facts.proofs.Truths.{and_left, and_right}
use Rattle.pn_values.specs.declared.sort.Sort.{Sort}
use Rattle.pn_values.specs.declared.value.Value.{Value}
use Rattle.pn_carriers.specs.Carriers.{is_finite, choices, carrier}
use Rattle.pn_carriers.specs.Members.{pass_each, is_member}
use Rattle.pn_facts.proofs.Lists.{drop_next}
use Rattle.pn_carriers.proofs.ChoiceLemmas.{length_choices, choice_place}
use Rattle.pn_carriers.proofs.CarrierLemmas.{agrees}

-- a choice of one value of each part stands among the choices
choices_stand : (widths : List ℕ) (parts : List Sort) → list_all is_finite parts ≡ true → (vs : List Value) → pass_each (map (is_member widths) parts) vs ≡ true
    → (k : ℕ) × (slice_get (choices (map (carrier widths) parts)) k ≡ Some vs)
choices_stand widths [] f [] h = (0, refl)
choices_stand widths [] f (v ∷ vs) h = absurd (false≢true h)
choices_stand widths (part ∷ parts) f [] h = absurd (false≢true h)
choices_stand widths (part ∷ parts) f (v ∷ vs) h =
    let here = (agrees widths part).placed (and_left (is_finite part) (list_all is_finite parts) f) v (and_left (is_member widths part v) (pass_each (map (is_member widths) parts) vs) h) in
    let rest = choices_stand widths parts (and_right (is_finite part) (list_all is_finite parts) f) vs (and_right (is_member widths part v) (pass_each (map (is_member widths) parts) vs) h) in
    (here.0 * length (choices (map (carrier widths) parts)) + rest.0, choice_place (carrier widths part) (map (carrier widths) parts) here.0 rest.0 v vs here.1 rest.1)

pass_each-length : (tests : List (Value → Bool)) (vs : List Value) → pass_each tests vs ≡ true → length tests ≡ length vs
pass_each-length [] [] h = refl
pass_each-length [] (v ∷ vs) h = absurd (false≢true h)
pass_each-length (test ∷ tests) [] h = absurd (false≢true h)
pass_each-length (test ∷ tests) (v ∷ vs) h = ap suc (pass_each-length tests vs (and_right (test v) (pass_each tests vs) h))

-- what is known before the parts that are left: the place of the parts so far
pub record SoFar (widths : List ℕ) (parts : List Sort) (values : List Value) (left : List Sort) (more : List Value) (place : ℕ) : Type 0 where
  pub finite : list_all is_finite left ≡ true
  pub member : pass_each (map (is_member widths) left) more ≡ true
  pub few : (place + 1) * length (choices (map (carrier widths) left)) ≤ length (choices (map (carrier widths) parts))
  pub stands : (r : ℕ) → slice_get (choices (map (carrier widths) left)) r ≡ Some more
      → slice_get (choices (map (carrier widths) parts)) (place * length (choices (map (carrier widths) left)) + r) ≡ Some values

-- what is known of the next part
pub record NextPart (widths : List ℕ) (part : Sort) (value : Value) (place most : ℕ) : Type 0 where
  pub finite : is_finite part ≡ true
  pub member : is_member widths part value ≡ true
  pub few : (place + 1) * length (carrier widths part) ≤ most
  pub size : length (carrier widths part) ≤ most

next_at : (widths : List ℕ) (parts : List Sort) (values : List Value) (part : Sort) (rest : List Sort) (value : Value) (more : List Value) (place : ℕ)
    → SoFar widths parts values (part ∷ rest) (value ∷ more) place → NextPart widths part value place (length (choices (map (carrier widths) parts)))
next_at widths parts values part rest value more place s =
    let finite = and_left (is_finite part) (list_all is_finite rest) s.finite in
    let member = and_left (is_member widths part value) (pass_each (map (is_member widths) rest) more) s.member in
    let k = choices_stand widths rest (and_right (is_finite part) (list_all is_finite rest) s.finite) more (and_right (is_member widths part value) (pass_each (map (is_member widths) rest) more) s.member) in
    let some : 0 < length (choices (map (carrier widths) rest)) = omega (arith, slice_get_within (choices (map (carrier widths) rest)) k.0 more k.1) in
    let split = length_choices (carrier widths part) (map (carrier widths) rest) in
    let regroup : (place + 1) * (length (carrier widths part) * length (choices (map (carrier widths) rest))) ≡ (place + 1) * length (carrier widths part) * length (choices (map (carrier widths) rest)) = omega arith in
    let most = s.few in
    let whole : (place + 1) * length (carrier widths part) * length (choices (map (carrier widths) rest)) ≤ length (choices (map (carrier widths) parts)) =
    subst (λ n. n ≤ length (choices (map (carrier widths) parts))) (ap (λ n. (place + 1) * n) split ∙ regroup) most in
    let few : (place + 1) * length (carrier widths part) ≤ length (choices (map (carrier widths) parts)) =
    omega (arith, le-mul_of_pos_right ((place + 1) * length (carrier widths part)) some, whole) in
    record {
      finite = finite;
      member = member;
      few = few;
      size = omega (arith, few);
    }

more_at : (widths : List ℕ) (parts : List Sort) (values : List Value) (part : Sort) (rest : List Sort) (value : Value) (more : List Value) (place o : ℕ)
    → slice_get (carrier widths part) o ≡ Some value → SoFar widths parts values (part ∷ rest) (value ∷ more) place → SoFar widths parts values rest more (place * length (carrier widths part) + o)
more_at widths parts values part rest value more place o at s =
    let here = length (carrier widths part) in
    let left = length (choices (map (carrier widths) rest)) in
    let split : length (choices (map (carrier widths) (part ∷ rest))) ≡ here * left = length_choices (carrier widths part) (map (carrier widths) rest) in
    let whole : (place + 1) * (here * left) ≤ length (choices (map (carrier widths) parts)) = subst (λ n. (place + 1) * n ≤ length (choices (map (carrier widths) parts))) split s.few in
    let below : o < here = slice_get_within (carrier widths part) o value at in
    let step : place * here + o + 1 ≤ place * here + here = omega arith in
    record {
      finite = and_right (is_finite part) (list_all is_finite rest) s.finite;
      member = and_right (is_member widths part value) (pass_each (map (is_member widths) rest) more) s.member;
      few = omega (arith, mul-le-mul_right left step, whole);
      stands = λ r h.
          let old = s.stands (o * left + r) (choice_place (carrier widths part) (map (carrier widths) rest) o r value more at h) in
          let same : place * length (choices (map (carrier widths) (part ∷ rest))) + (o * left + r) ≡ (place * here + o) * left + r = ap (λ n. place * n + (o * left + r)) split ∙ regroup place here left o r in
          subst (λ k. slice_get (choices (map (carrier widths) parts)) k ≡ Some values) same old;
    }
  where
    regroup : (place here left o r : ℕ) → place * (here * left) + (o * left + r) ≡ (place * here + o) * left + r
    regroup place here left o r = omega arith

pub place_fits : (place here count : ℕ) → count ≡ min here (2 ^ 64) → (place + 1) * here < 2 ^ 64 → Fits w64 (place * count)
place_fits place here count is most =
    let same : count ≡ here = omega arith in
    let fits : place * here < 2 ^ 64 = omega arith in subst (λ n. Fits w64 (place * n)) (sym same) (search (rules, fits))

pub next_fits : (place here count o : ℕ) → count ≡ min here (2 ^ 64) → o < here → (place + 1) * here < 2 ^ 64 → Fits w64 (place * count + o)
next_fits place here count o is below most =
    let same : count ≡ here = omega arith in
    let fits : place * here + o < 2 ^ 64 = omega arith in subst (λ n. Fits w64 (place * n + o)) (sym same) (search (rules, fits))

module _ (widths : List ℕ) (parts : List Sort) (values : List Value) (i : ℕ) (place : ℕ) (s : SoFar widths parts values (drop i parts) (drop i values) place) where
  -- there is a value for each part
  pub value_there : i < length parts → i < length values
  value_there lt =
      omega (arith, length-drop i parts, length-drop i values, length-map (drop i parts) (is_member widths), pass_each-length (map (is_member widths) (drop i parts)) (drop i values) s.member)

  opened : (part : Sort) (value : Value) → i < length parts → part ≡ get_or parts i part → value ≡ get_or values i value
      → SoFar widths parts values (part ∷ drop (i + 1) parts) (value ∷ drop (i + 1) values) place
  opened part value lt is here =
      subst (λ vs. SoFar widths parts values (part ∷ drop (i + 1) parts) vs place) (drop_next values i value (value_there lt) here)
      (subst (λ ps. SoFar widths parts values ps (drop i values) place) (drop_next parts i part lt is) s)

  pub next : (part : Sort) (value : Value) → i < length parts → part ≡ get_or parts i part → value ≡ get_or values i value → NextPart widths part value place (length (choices (map (carrier widths) parts)))
  next part value lt is here = next_at widths parts values part (drop (i + 1) parts) value (drop (i + 1) values) place (opened part value lt is here)

  pub more : (part : Sort) (value : Value) (o : ℕ) → i < length parts → part ≡ get_or parts i part → value ≡ get_or values i value → slice_get (carrier widths part) o ≡ Some value
      → SoFar widths parts values (drop (i + 1) parts) (drop (i + 1) values) (place * length (carrier widths part) + o)
  more part value o lt is here at = more_at widths parts values part (drop (i + 1) parts) value (drop (i + 1) values) place o at (opened part value lt is here)

  ended : (vs : List Value) → SoFar widths parts values [] vs place → slice_get (choices (map (carrier widths) parts)) place ≡ Some values
  ended [] e = ap (slice_get (choices (map (carrier widths) parts))) (omega arith) ∙ e.stands 0 refl
  ended (v ∷ vs) e = absurd (false≢true e.member)

  pub all : length parts ≤ i → slice_get (choices (map (carrier widths) parts)) place ≡ Some values
  all le = ended (drop i values) (subst (λ ps. SoFar widths parts values ps (drop i values) place) (drop_all i parts le) s)
