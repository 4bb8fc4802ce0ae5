-- Which sorts have values.
use Rattle.std.proofs.Common.{◌≡◌, ℕ, zero, suc, ◌<◌, ◌≤◌, ◌^◌, min, nat_lt, Bool, true, false, cond, pos, List, [], ◌∷◌, codes, length, map, take, get_or, Some, None, refl, sym, ap, ◌∙◌, subst, arith}
use Rattle.std.specs.Fmt.{signed_decimal}
use Rattle.std.specs.List.{slice_get}
use Rattle.std.proofs.lemmas.Bool.{false≢true}
use Rattle.std.proofs.lemmas.Bool.Decides.{nat_tests}
use Rattle.std.proofs.lemmas.Option.{slice_get-get_or, slice_get_within}
use Rattle.pn_carriers.proofs.CarrierLemmas.{agrees}
use Rattle.pn_carriers.proofs.LayerLemmas.{member-product}
use Rattle.pn_carriers.proofs.ValueLemmas.{out-tuple, tuple_is}
use Rattle.pn_carriers.specs.Carriers.{carrier, is_finite}
use Rattle.pn_carriers.specs.Members.{IsMember, is_member, is_tuple_of, pass_each}
use Rattle.pn_carriers.specs.Sizes.{capped_size, size_of}
use Rattle.pn_facts.proofs.Truths.{and_left, and_right, and_both}
use Rattle.pn_names.specs.Names.{widths_of}
use Rattle.pn_syntax.specs.declared.declaration.Declaration.{Declaration}
use Rattle.pn_values.specs.declared.sort.Size.TheVariants as sizes
use Rattle.pn_values.specs.declared.sort.Sort.{Sort}
use Rattle.pn_values.specs.declared.sort.Sort.TheVariants as sorts
use Rattle.pn_values.specs.declared.value.Value.{Value}
use Rattle.pn_values.specs.declared.value.Value.TheVariants as values
use Rattle.pn_mode_text.specs.ValueReadings.{AreInhabitedParts, IsInhabited, TellsParts, TellsValues}
use Rattle.pn_mode_text.proofs.SortReadings.{dot_alike, integer_alike, list_alike, natural_alike, positive_alike, text_alike, truth_alike}

module _ (items : List Declaration) (s : Sort) where
  pub dot_inhabited : s ≡ sorts.Dot → IsInhabited items s
  dot_inhabited is = (values.Dot, ((dot_alike items s is).to values.Dot (codes "dot") (refl, refl)).0)

  pub truth_inhabited : s ≡ sorts.Bool → IsInhabited items s
  truth_inhabited is = (values.Bool true, ((truth_alike items s is).to (values.Bool true) (codes "true") (true, refl, refl)).0)

  pub integer_inhabited : s ≡ sorts.Integer → IsInhabited items s
  integer_inhabited is = (values.Int (pos 0), ((integer_alike items s is).to (values.Int (pos 0)) (signed_decimal (pos 0)) (pos 0, refl, (refl, refl, refl))).0)

  pub natural_inhabited : s ≡ sorts.Natural → IsInhabited items s
  natural_inhabited is = (values.Int (pos 0), ((natural_alike items s is).to (values.Int (pos 0)) (signed_decimal (pos 0)) (pos 0, refl, (refl, refl, refl))).0)

  pub positive_inhabited : s ≡ sorts.Positive → IsInhabited items s
  positive_inhabited is = (values.Int (pos 1), ((positive_alike items s is).to (values.Int (pos 1)) (signed_decimal (pos 1)) (pos 1, refl, (refl, refl, refl))).0)

  pub text_inhabited : s ≡ sorts.Text → IsInhabited items s
  text_inhabited is = (values.Text [], ((text_alike items s is).to (values.Text []) (codes "\"\"") ([], refl, (refl, refl))).0)

  pub list_inhabited : (item : Sort) → s ≡ sorts.List item → IsInhabited items s
  list_inhabited item is = (values.List [], ((list_alike items s item is).to (values.List []) (codes "[]") ([], refl, codes "]", refl, refl)).0)

  sized : is_finite s ≡ true → size_of (widths_of items) s ≡ Some (length (carrier (widths_of items) s))
  sized finite = ap (λ t. cond t (Some (length (carrier (widths_of items) s))) None) finite

  -- the number of values tells whether there are some
  pub count_tells : (n : ℕ) → is_finite s ≡ true → sizes.Finite n ≡ capped_size (size_of (widths_of items) s) → TellsValues items s (nat_lt 0 n)
  count_tells n finite is = by (nat_lt 0 n) refl
    where
      number : n ≡ min (length (carrier (widths_of items) s)) (2 ^ 64)
      number = let e : sizes.Finite n ≡ sizes.Finite (min (length (carrier (widths_of items) s)) (2 ^ 64)) = is ∙ ap (λ o. capped_size o) (sized finite) in cc

      by : (t : Bool) → nat_lt 0 n ≡ t → TellsValues items s t
      by true e =
          let some : 0 < n = grind (arith, nat_tests) in
          let all = carrier (widths_of items) s in
          (get_or all 0 values.Dot, (agrees (widths_of items) s).member 0 (get_or all 0 values.Dot) (slice_get-get_or all 0 values.Dot (omega (arith, some, number))))
      by false e = λ v member.
          let none : n ≤ 0 = grind (arith, nat_tests) in
          let at = (agrees (widths_of items) s).placed finite v member in
          let within = slice_get_within (carrier (widths_of items) s) at.0 v at.1 in
          omega (arith, none, number, within)

  pub not_infinite : {P : Type 0} → is_finite s ≡ true → sizes.Infinite ≡ capped_size (size_of (widths_of items) s) → P
  not_infinite finite is = let e : sizes.Infinite ≡ sizes.Finite (min (length (carrier (widths_of items) s)) (2 ^ 64)) = is ∙ ap (λ o. capped_size o) (sized finite) in absurd cc

-- ---- products

module _ (items : List Declaration) where
  abbrev pub test : Sort → Value → Bool
  test = is_member (widths_of items)

  pub some_parts : (ss : List Sort) → AreInhabitedParts items ss → (vs : List Value) × (pass_each (map test ss) vs ≡ true)
  some_parts [] all = ([], refl)
  some_parts (s ∷ ss) all = let more = some_parts ss all.1 in (all.0.0 ∷ more.0, and_both (test s all.0.0) (pass_each (map test ss) more.0) all.0.1 more.1)

  pub more_inhabited : (ss : List Sort) (i : ℕ) (s : Sort) → slice_get ss i ≡ Some s → AreInhabitedParts items (take i ss) → IsInhabited items s → AreInhabitedParts items (take (suc i) ss)
  more_inhabited [] i s got all some = absurd cc
  more_inhabited (r ∷ ss) zero s got all some = let same : r ≡ s = cc in (subst (IsInhabited items) (sym same) some, tt)
  more_inhabited (r ∷ ss) (suc i) s got all some = (all.0, more_inhabited ss i s got all.1 some)

  pub part_inhabited : (ss : List Sort) (i : ℕ) (s : Sort) → slice_get ss i ≡ Some s → AreInhabitedParts items ss → IsInhabited items s
  part_inhabited [] i s got all = absurd cc
  part_inhabited (r ∷ ss) zero s got all = let same : r ≡ s = cc in subst (IsInhabited items) same all.0
  part_inhabited (r ∷ ss) (suc i) s got all = part_inhabited ss i s got all.1

  pub all_inhabited : (ss : List Sort) (i : ℕ) → length ss ≤ i → AreInhabitedParts items (take i ss) → AreInhabitedParts items ss
  all_inhabited [] i long all = tt
  all_inhabited (s ∷ ss) zero long all = absurd (omega (arith, long))
  all_inhabited (s ∷ ss) (suc i) long all = (all.0, all_inhabited ss i (omega (arith, long)) all.1)

  pub empty_part : (ss : List Sort) (i : ℕ) (s : Sort) → slice_get ss i ≡ Some s → ((v : Value) → IsMember (widths_of items) v s → ⊥) → (vs : List Value) → pass_each (map test ss) vs ≡ true → ⊥
  empty_part [] i s got none vs pass = absurd cc
  empty_part (r ∷ ss) i s got none [] pass = false≢true pass
  empty_part (r ∷ ss) zero s got none (v ∷ vs) pass =
      let same : r ≡ s = cc in none v (subst (λ (q : Sort). test q v ≡ true) same (and_left (test r v) (pass_each (map test ss) vs) pass))
  empty_part (r ∷ ss) (suc i) s got none (v ∷ vs) pass = empty_part ss i s got none vs (and_right (test r v) (pass_each (map test ss) vs) pass)

  -- whether each part has values tells whether the product has
  pub parts_tell : (s : Sort) (ss : List Sort) (t : Bool) → s ≡ sorts.Product ss → TellsParts items ss t → TellsValues items s t
  parts_tell s ss true is h =
      let vs = some_parts ss h in (
        values.Tuple vs.0,
        ap (λ (r : Sort). test r (values.Tuple vs.0)) is ∙ member-product (widths_of items) ss (values.Tuple vs.0) ∙ ap (is_tuple_of (map test ss)) (out-tuple vs.0) ∙ vs.1,
      )
  parts_tell s ss false is h = λ v member.
      let vs = tuple_is (map test ss) v (sym (member-product (widths_of items) ss v) ∙ ap (λ (r : Sort). test r v) (sym is) ∙ member) in h vs.0 vs.1

  pub product_has : (s : Sort) (ss : List Sort) → s ≡ sorts.Product ss → IsInhabited items s → AreInhabitedParts items ss
  product_has s ss is h =
      let vs = tuple_is (map test ss) h.0 (sym (member-product (widths_of items) ss h.0) ∙ ap (λ (r : Sort). test r h.0) (sym is) ∙ h.1) in each ss vs.0 vs.1
    where
      each : (rs : List Sort) (vs : List Value) → pass_each (map test rs) vs ≡ true → AreInhabitedParts items rs
      each [] vs pass = tt
      each (r ∷ rs) [] pass = absurd (false≢true pass)
      each (r ∷ rs) (v ∷ vs) pass = ((v, and_left (test r v) (pass_each (map test rs) vs) pass), each rs vs (and_right (test r v) (pass_each (map test rs) vs) pass))
