-- What the definitions say of each variant of a sort.
use Rattle.std.proofs.Common.{◌≡◌, ℕ, Bool, true, ◌&&◌, List, [], ◌∷◌, map, ℤ, sym, refl, ap, ◌∙◌}
use Rattle.std.specs.List.{list_all}
use Rattle.pn_values.specs.declared.sort.Sort.{Sort}
use Rattle.pn_values.specs.declared.sort.Sort.TheOpen as layer
use Rattle.pn_values.specs.declared.sort.Sort.TheVariants as sorts
use Rattle.pn_values.specs.declared.sort.Sort.TheVariants.{rolls-Enumeration, rolls-Partition, rolls-Range, rolls-Product}
use Rattle.pn_values.specs.declared.sort.Sort.TheFolds.{fold-roll-Sort}
use Rattle.pn_values.specs.declared.value.Value.{Value}
use Rattle.pn_values.specs.declared.value.Value.TheVariants as values
use Rattle.pn_values.specs.declared.value.Value.TheViews.{out-Value}
use Rattle.pn_carriers.specs.Members.{is_constant, is_between, is_tuple_of, is_member_layer, is_member}
use Rattle.pn_carriers.specs.Carriers.{is_finite_layer, is_finite, width_of, constants, numbers_between, choices, carrier_layer, carrier}

all_of : (parts : List Sort) → list_all (λ part. part) (map is_finite parts) ≡ list_all is_finite parts
all_of [] = refl
all_of (part ∷ parts) = ap (λ rest. is_finite part && rest) (all_of parts)

pub carrier-enumeration : (widths : List ℕ) (n : ℕ) → carrier widths (sorts.Enumeration n) ≡ constants (width_of widths n)
carrier-enumeration widths n = ap (carrier widths) (sym (rolls-Enumeration n)) ∙ fold-roll-Sort (List Value) (carrier_layer widths) (layer.Enumeration n)

pub finite-enumeration : (n : ℕ) → is_finite (sorts.Enumeration n) ≡ true
finite-enumeration n = ap is_finite (sym (rolls-Enumeration n)) ∙ fold-roll-Sort Bool is_finite_layer (layer.Enumeration n)

pub carrier-partition : (widths : List ℕ) (n : ℕ) → carrier widths (sorts.Partition n) ≡ constants (width_of widths n)
carrier-partition widths n = ap (carrier widths) (sym (rolls-Partition n)) ∙ fold-roll-Sort (List Value) (carrier_layer widths) (layer.Partition n)

pub finite-partition : (n : ℕ) → is_finite (sorts.Partition n) ≡ true
finite-partition n = ap is_finite (sym (rolls-Partition n)) ∙ fold-roll-Sort Bool is_finite_layer (layer.Partition n)

pub carrier-range : (widths : List ℕ) (start end : ℤ) → carrier widths (sorts.Range start end) ≡ numbers_between start end
carrier-range widths start end = ap (carrier widths) (sym (rolls-Range start end)) ∙ fold-roll-Sort (List Value) (carrier_layer widths) (layer.Range start end)

pub finite-range : (start end : ℤ) → is_finite (sorts.Range start end) ≡ true
finite-range start end = ap is_finite (sym (rolls-Range start end)) ∙ fold-roll-Sort Bool is_finite_layer (layer.Range start end)

pub carrier-product : (widths : List ℕ) (parts : List Sort) → carrier widths (sorts.Product parts) ≡ map values.Tuple (choices (map (carrier widths) parts))
carrier-product widths parts = ap (carrier widths) (sym (rolls-Product parts)) ∙ fold-roll-Sort (List Value) (carrier_layer widths) (layer.Product parts)

pub finite-product : (parts : List Sort) → is_finite (sorts.Product parts) ≡ list_all is_finite parts
finite-product parts = ap is_finite (sym (rolls-Product parts)) ∙ fold-roll-Sort Bool is_finite_layer (layer.Product parts) ∙ all_of parts

pub member-enumeration : (widths : List ℕ) (n : ℕ) (v : Value) → is_member widths (sorts.Enumeration n) v ≡ is_constant (width_of widths n) (out-Value v)
member-enumeration widths n v =
    ap (λ s. is_member widths s v) (sym (rolls-Enumeration n)) ∙ ap (λ (test : Value → Bool). test v) (fold-roll-Sort (Value → Bool) (λ sort v. is_member_layer widths sort (out-Value v)) (layer.Enumeration n))

pub member-partition : (widths : List ℕ) (n : ℕ) (v : Value) → is_member widths (sorts.Partition n) v ≡ is_constant (width_of widths n) (out-Value v)
member-partition widths n v =
    ap (λ s. is_member widths s v) (sym (rolls-Partition n)) ∙ ap (λ (test : Value → Bool). test v) (fold-roll-Sort (Value → Bool) (λ sort v. is_member_layer widths sort (out-Value v)) (layer.Partition n))

pub member-range : (widths : List ℕ) (start end : ℤ) (v : Value) → is_member widths (sorts.Range start end) v ≡ is_between start end (out-Value v)
member-range widths start end v =
    ap (λ s. is_member widths s v) (sym (rolls-Range start end)) ∙ ap (λ (test : Value → Bool). test v) (fold-roll-Sort (Value → Bool) (λ sort v. is_member_layer widths sort (out-Value v)) (layer.Range start end))

pub member-product : (widths : List ℕ) (parts : List Sort) (v : Value) → is_member widths (sorts.Product parts) v ≡ is_tuple_of (map (is_member widths) parts) (out-Value v)
member-product widths parts v =
    ap (λ s. is_member widths s v) (sym (rolls-Product parts)) ∙ ap (λ (test : Value → Bool). test v) (fold-roll-Sort (Value → Bool) (λ sort v. is_member_layer widths sort (out-Value v)) (layer.Product parts))
