-- The choices of one item of each list: how many there are, and at which place each stands.
use Rattle.std.proofs.Common.{◌≡◌, ℕ, zero, suc, ◌+◌, ◌*◌, ◌-◌, ◌<◌, ◌≤◌, List, [], ◌∷◌, map, length, Some, refl, sym, ap, ◌∙◌, arith, length-append}
use Rattle.std.specs.List.{slice_get, flat_map}
use Rattle.std.specs.Option.{option_map}
use Rattle.std.proofs.lemmas.List.{length-map}
use Rattle.std.proofs.lemmas.Option.{slice_get-map}
use Rattle.pn_values.specs.declared.value.Value.{Value}
use Rattle.pn_carriers.specs.Carriers.{choices}
use Rattle.pn_carriers.proofs.PlaceLemmas.{get_left, get_left_back, get_right, mapped}
use Rattle.pn_carriers.proofs.NumberLemmas.{by_le}

abbrev onto : Value → List Value → List Value
onto v rest = v ∷ rest

abbrev pairs : List Value → List (List Value) → List (List Value)
pairs vs wss = flat_map (λ v. map (λ rest. v ∷ rest) wss) vs

length_pairs : (vs : List Value) (wss : List (List Value)) → length (pairs vs wss) ≡ length vs * length wss
length_pairs [] wss = omega arith
length_pairs (v ∷ vs) wss = omega (arith, length-append (map (onto v) wss) (pairs vs wss), length-map wss (onto v), length_pairs vs wss)

-- there are as many choices as the lengths multiply to
pub length_choices : (vs : List Value) (more : List (List Value)) → length (choices (vs ∷ more)) ≡ length vs * length (choices more)
length_choices vs more = length_pairs vs (choices more)

pairs_place : (vs : List Value) (wss : List (List Value)) (q r : ℕ) (v : Value) (ws : List Value) → slice_get vs q ≡ Some v → slice_get wss r ≡ Some ws
    → slice_get (pairs vs wss) (q * length wss + r) ≡ Some (v ∷ ws)
pairs_place [] wss q r v ws h k = absurd cc
pairs_place (x ∷ vs) wss zero r v ws h k =
    let at : zero * length wss + r ≡ r = omega arith in
    let same : x ≡ v = cc in
    let here : slice_get (map (onto x) wss) r ≡ Some (v ∷ ws) =
    slice_get-map (onto x) wss r ∙ ap (option_map (onto x)) k ∙ ap (λ y. Some (y ∷ ws)) same in
    ap (slice_get (pairs (x ∷ vs) wss)) at ∙ get_left (map (onto x) wss) (pairs vs wss) r (v ∷ ws) here
pairs_place (x ∷ vs) wss (suc q) r v ws h k =
    let at : suc q * length wss + r ≡ length (map (onto x) wss) + (q * length wss + r) = omega (arith, length-map wss (onto x)) in
    ap (slice_get (pairs (x ∷ vs) wss)) at ∙ get_right (map (onto x) wss) (pairs vs wss) (q * length wss + r) ∙ pairs_place vs wss q r v ws h k

-- the first item counts slowest
pub choice_place : (vs : List Value) (more : List (List Value)) (q r : ℕ) (v : Value) (ws : List Value) → slice_get vs q ≡ Some v → slice_get (choices more) r ≡ Some ws
    → slice_get (choices (vs ∷ more)) (q * length (choices more) + r) ≡ Some (v ∷ ws)
choice_place vs more q r v ws h k = pairs_place vs (choices more) q r v ws h k

-- a choice, and its place, in two parts
pub record Split (vs : List Value) (wss : List (List Value)) (k : ℕ) (us : List Value) : Type 0 where
  pub q : ℕ
  pub r : ℕ
  pub v : Value
  pub ws : List Value
  pub place : k ≡ q * length wss + r
  pub first : slice_get vs q ≡ Some v
  pub rest : slice_get wss r ≡ Some ws
  pub is : us ≡ v ∷ ws

split_next : (x : Value) (vs : List Value) (wss : List (List Value)) (k : ℕ) (us : List Value) → length wss ≤ k → Split vs wss (k - length wss) us → Split (x ∷ vs) wss k us
split_next x vs wss k us le s = record {
  q = suc s.q;
  r = s.r;
  v = s.v;
  ws = s.ws;
  place = omega (arith, s.place);
  first = s.first;
  rest = s.rest;
  is = s.is;
}

split_first : (x : Value) (vs : List Value) (wss : List (List Value)) (k : ℕ) (us : List Value) → (ws : List Value) × (slice_get wss k ≡ Some ws) × (us ≡ x ∷ ws) → Split (x ∷ vs) wss k us
split_first x vs wss k us s = record {
  q = 0;
  r = k;
  v = x;
  ws = s.0;
  place = omega arith;
  first = refl;
  rest = s.1;
  is = s.2;
}

split_pairs : (vs : List Value) (wss : List (List Value)) (k : ℕ) (us : List Value) → slice_get (pairs vs wss) k ≡ Some us → Split vs wss k us
split_pairs [] wss k us h = absurd cc
split_pairs (x ∷ vs) wss k us h =
    by_le (length wss) k
    (λ (w : length wss ≤ k).
    let at : k ≡ length (map (onto x) wss) + (k - length wss) = omega (arith, length-map wss (onto x)) in
    let later : slice_get (pairs vs wss) (k - length wss) ≡ Some us = sym (get_right (map (onto x) wss) (pairs vs wss) (k - length wss)) ∙ ap (slice_get (pairs (x ∷ vs) wss)) (sym at) ∙ h in
    split_next x vs wss k us w (split_pairs vs wss (k - length wss) us later))
    (λ (w : k < length wss).
    let lt : k < length (map (onto x) wss) = omega (arith, length-map wss (onto x)) in
    split_first x vs wss k us (mapped (onto x) wss k us (sym (get_left_back (map (onto x) wss) (pairs vs wss) k lt) ∙ h)))

pub split_choice : (vs : List Value) (more : List (List Value)) (k : ℕ) (us : List Value) → slice_get (choices (vs ∷ more)) k ≡ Some us → Split vs (choices more) k us
split_choice vs more k us h = split_pairs vs (choices more) k us h
