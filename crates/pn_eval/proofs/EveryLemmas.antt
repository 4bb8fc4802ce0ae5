-- The values of a sort, each once, are a multiset.
use Rattle.std.proofs.Common.{◌≡◌, ◌+◌, ◌<◌, ◌≤◌, ℕ, zero, suc, List, [], ◌∷◌, ◌++◌, map, length, take, drop, take-append-drop, Some, refl, sym, ap, ◌∙◌, subst, arith, true}
use Rattle.std.specs.List.{slice_get}
use Rattle.std.specs.Ordering.{match_ordering, nat_cmp}
use Rattle.std.specs.Cmp.{nat_cmp_is}
use Rattle.std.specs.declared.cmp.Ordering.TheVariants.{Less, Greater}
use Rattle.std.proofs.lemmas.List.{map-append}
use Rattle.std.proofs.lemmas.Option.{slice_get_within}
use Rattle.pn_bag.specs.Algebra.{added, inserted}
use Rattle.pn_bag.specs.Bag.{IsBag}
use Rattle.pn_bag.specs.Counts.{Every, IsRising}
use Rattle.pn_carriers.specs.Carriers.{carrier}
use Rattle.pn_carriers.specs.Members.{IsMember}
use Rattle.pn_carriers.proofs.CarrierLemmas.{member_at}
use Rattle.pn_carriers.proofs.OrderLemmas.{in_order}
use Rattle.pn_facts.proofs.Lists.{take_got}
use Rattle.pn_names.proofs.DeclaredLemmas.{slice_get_left}
use Rattle.pn_values.specs.Order.{value_cmp}
use Rattle.pn_values.specs.declared.sort.Sort.{Sort}
use Rattle.pn_values.specs.declared.value.Value.{Value}

-- each of some values once
abbrev pub once_each : List Value → List (Value × ℕ)
once_each vs = map (λ value. (value, 1)) vs

added_last : (vs : List Value) (value : Value) → ((j : ℕ) (w : Value) → slice_get vs j ≡ Some w → value_cmp value w ≡ Greater) → inserted value_cmp (once_each vs) (value, 1) ≡ once_each vs ++ (value, 1) ∷ []
added_last [] value above = refl
added_last (v ∷ vs) value above =
    ap (λ o. match_ordering o ((value, 1) ∷ (v, 1) ∷ once_each vs) ((v, 2) ∷ once_each vs) ((v, 1) ∷ inserted value_cmp (once_each vs) (value, 1))) (above 0 v refl)
    ∙ ap (λ xs. (v, 1) ∷ xs) (added_last vs value (λ j w h. above (suc j) w h))

in_front : (xs : List Value) (place j : ℕ) (w : Value) → slice_get (take place xs) j ≡ Some w → slice_get xs j ≡ Some w
in_front xs place j w h = subst (λ ys. slice_get ys j ≡ Some w) (take-append-drop place xs) (slice_get_left (take place xs) (drop place xs) j w h)

below_place : (xs : List Value) (place j : ℕ) → j < length (take place xs) → j < place
below_place [] zero j h = h
below_place [] (suc place) j h = absurd (omega (arith, h))
below_place (x ∷ xs) zero j h = h
below_place (x ∷ xs) (suc place) zero h = omega arith
below_place (x ∷ xs) (suc place) (suc j) h = let less = below_place xs place j (omega (arith, h)) in omega (arith, less)

-- the value at the next place goes behind those before it
pub next_added : (widths : List ℕ) (sort : Sort) (place : ℕ) (value : Value) → slice_get (carrier widths sort) place ≡ Some value
    → added value_cmp (once_each (take place (carrier widths sort))) value 1 ≡ once_each (take (place + 1) (carrier widths sort))
next_added widths sort place value at =
    added_last (take place (carrier widths sort)) value (λ j w h.
    let less : j < place = below_place (carrier widths sort) place j (slice_get_within (take place (carrier widths sort)) j w h) in
    in_order widths sort place j value w at (in_front (carrier widths sort) place j w h) ∙ sym (nat_cmp_is place j Greater less))
    ∙ sym (map-append (λ v. (v, 1)) (take place (carrier widths sort)) (value ∷ []))
    ∙ ap once_each (sym (take_got (carrier widths sort) place value at))

every_once : (P : Value × ℕ → Type 0) (vs : List Value) → ((j : ℕ) (v : Value) → slice_get vs j ≡ Some v → P (v, 1)) → Every P (once_each vs)
every_once P [] each = tt
every_once P (v ∷ vs) each = (each 0 v refl, every_once P vs (λ j w h. each (suc j) w h))

all_rising : (vs : List Value) → ((i j : ℕ) (u v : Value) → i < j → slice_get vs i ≡ Some u → slice_get vs j ≡ Some v → value_cmp u v ≡ Less) → IsRising value_cmp (once_each vs)
all_rising [] up = tt
all_rising (v ∷ vs) up = (every_once (λ later. value_cmp v later.0 ≡ Less) vs (λ j w h. up 0 (suc j) v w (omega arith) refl h), all_rising vs (λ i j u w lt h k. up (suc i) (suc j) u w (omega (arith, lt)) h k))

-- all values of a sort, each once, are a multiset of members of it
pub carrier_bag : (widths : List ℕ) (sort : Sort) → IsBag value_cmp (once_each (carrier widths sort))
carrier_bag widths sort = record {
  rising = all_rising (carrier widths sort) (λ i j u v lt h k. in_order widths sort i j u v h k ∙ sym (nat_cmp_is i j Less lt));
  counted = every_once _ (carrier widths sort) (λ j v h. (omega arith, omega arith));
}

pub carrier_members : (widths : List ℕ) (sort : Sort) → Every (λ entry. IsMember widths entry.0 sort) (once_each (carrier widths sort))
carrier_members widths sort = every_once (λ entry. IsMember widths entry.0 sort) (carrier widths sort) (λ j v h. member_at widths sort j v h)
