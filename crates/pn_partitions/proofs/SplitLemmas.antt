-- A partition that splits its base sort, and the places of the values that it lists.
use Rattle.std.proofs.Common.{◌≡◌, ℕ, zero, suc, ◌+◌, ◌<◌, ◌≤◌, Bool, true, false, ◌||◌, List, [], ◌∷◌, ◌++◌, map, length, get_or, eqb, sum, Option, Some, None, is_some, IfSome, refl, ap, sym, ◌∙◌, subst, length-append, arith}
use Rattle.std.specs.List.{slice_get, list_all, list_any, flat_map, range_with_len}
use Rattle.std.specs.Option.{option_map, option_and_then, unwrap_or}
use Rattle.std.proofs.lemmas.Bool.Decides.{nat_tests}
use Rattle.std.proofs.lemmas.Grind.{common_steps}
use Rattle.std.proofs.lemmas.List.{map-append, length-map, get_or-map}
use Rattle.std.proofs.lemmas.List.FromFn.{length-map-range_with_len, get_or-map-range_with_len}
use Rattle.std.proofs.lemmas.Map.Steps.{le-length_from_below}
use Rattle.std.proofs.lemmas.Option.{none-some, same_Some, slice_get-map, slice_get_within, slice_get-get_or, get_or_from_slice_get}
use Rattle.pn_syntax.specs.declared.declaration.Declaration.{Declaration}
use Rattle.pn_syntax.specs.declared.declaration.ConstExpr.{ConstExpr}
use Rattle.pn_syntax.specs.declared.declaration.PartElement.{PartElement}
use Rattle.pn_values.specs.declared.sort.Sort.{Sort}
use Rattle.pn_values.specs.declared.value.Value.{Value}
use Rattle.pn_carriers.specs.Carriers.{carrier}
use Rattle.pn_names.specs.declared.Declared.{Declared}
use Rattle.pn_names.specs.Names.{names_of, widths_of}
use Rattle.pn_partitions.specs.Partitions.{is_splittable, listed_value, values_in, all_values, element_at, Lists, IsOnce, Splits, IsPartTable}
use Rattle.pn_partitions.specs.Tables.{place_of, places_in, values_listed, AreEachOnce, IsEntry, IsFilled}
use Rattle.pn_partitions.proofs.BaseLemmas.{IsBase, base_found, base_size}
use Rattle.pn_partitions.proofs.TableLemmas.{contains_at, at_contains}

option_some : {A B : Type 0} (f : A → B) (o : Option A) (y : B) → option_map f o ≡ Some y → (x : A) × (o ≡ Some x) × (f x ≡ y)
option_some f None y h = absurd (none-some y h)
option_some f (Some x) y h = (x, refl, same_Some (f x) y h)

all_some-map : {A B : Type 0} (f : A → B) (xs : List (Option A)) → list_all is_some (map (option_map f) xs) ≡ list_all is_some xs
all_some-map f [] = refl
all_some-map f (None ∷ xs) = refl
all_some-map f (Some x ∷ xs) = all_some-map f xs

-- a list has a number where some place has it
any_at : (listed : List (Option ℕ)) (i q : ℕ) → slice_get listed i ≡ Some (Some q) → list_any (eqb q) (map (λ o. unwrap_or o 0) listed) ≡ true
any_at [] i q h = absurd (none-some (Some q) h)
any_at (y ∷ listed) zero q h = ap (λ o. eqb q (unwrap_or o 0) || list_any (eqb q) (map (λ o. unwrap_or o 0) listed)) (same_Some y (Some q) h) ∙ grind (arith, nat_tests)
any_at (y ∷ listed) (suc i) q h = ap (λ b. eqb q (unwrap_or y 0) || b) (any_at listed i q h) ∙ either (eqb q (unwrap_or y 0))
  where
    either : (b : Bool) → (b || true) ≡ true
    either true = refl
    either false = refl

listed_length : (names : List (List ℕ × Declared)) (base : Sort) (elements : List PartElement) → length (flat_map (places_in names base) elements) ≡ sum (map values_listed elements)
listed_length names base [] = refl
listed_length names base (e ∷ elements) =
    length-append (places_in names base e) (flat_map (places_in names base) elements) ∙ ap (λ k. k + length (flat_map (places_in names base) elements)) (length-map e.values (place_of names base))
    ∙ ap (λ k. length e.values + k) (listed_length names base elements) ∙ grind (arith, common_steps)

each_enough : (size : ℕ) (listed : List (Option ℕ)) → AreEachOnce size listed → size ≤ length listed
each_enough size listed each =
    omega (arith, length-map listed (λ o. unwrap_or o 0), le-length_from_below (map (λ o. unwrap_or o 0) listed) size (λ q lt. any_at listed (each.once q lt).0 q (each.once q lt).1))

module _ (items : List Declaration) (base : Sort) (size : ℕ) (value : ℕ → Value) (based : IsBase items base size value) where
  values_are : (cs : List ConstExpr) → map (listed_value items base) cs ≡ map (option_map value) (map (place_of (names_of items) base) cs)
  values_are [] = refl
  values_are (c ∷ cs) = ap (λ v. v ∷ map (listed_value items base) cs) (based.listed c) ∙ ap (λ vs. option_map value (place_of (names_of items) base c) ∷ vs) (values_are cs)

  all_are : (elements : List PartElement) → all_values items base elements ≡ map (option_map value) (flat_map (places_in (names_of items) base) elements)
  all_are [] = refl
  all_are (e ∷ elements) =
      ap (λ l. l ++ all_values items base elements) (values_are e.values) ∙ ap (λ l. map (option_map value) (places_in (names_of items) base e) ++ l) (all_are elements)
      ∙ sym (map-append (option_map value) (places_in (names_of items) base e) (flat_map (places_in (names_of items) base) elements))

  value_there : (listed : List (Option ℕ)) (i k : ℕ) → slice_get listed i ≡ Some (Some k) → slice_get (map (option_map value) listed) i ≡ Some (Some (value k))
  value_there listed i k h = slice_get-map (option_map value) listed i ∙ ap (option_map (option_map value)) h

  place_there : (listed : List (Option ℕ)) (i k : ℕ) → slice_get (map (option_map value) listed) i ≡ Some (Some (value k)) → slice_get listed i ≡ Some (Some k)
  place_there listed i k h =
      let found = option_some (option_map value) (slice_get listed i) (Some (value k)) (sym (slice_get-map (option_map value) listed i) ∙ h) in
      let inner = option_some value found.0 (value k) found.2 in
      found.1 ∙ ap Some (inner.1 ∙ ap Some (based.distinct inner.0 k inner.2))

  once_value : (listed : List (Option ℕ)) (k : ℕ) → IsOnce listed k → IsOnce (map (option_map value) listed) (value k)
  once_value listed k once = (once.0, value_there listed once.0 k once.1, λ j h. once.2 j (place_there listed j k h))

  once_place : (listed : List (Option ℕ)) (k : ℕ) → IsOnce (map (option_map value) listed) (value k) → IsOnce listed k
  once_place listed k once = (once.0, place_there listed once.0 k once.1, λ j h. once.2 j (value_there listed j k h))

  each_splits : (elements : List PartElement) → is_splittable base ≡ true → AreEachOnce size (flat_map (places_in (names_of items) base) elements) → Splits items base elements
  each_splits elements splittable each = record {
    splittable = splittable;
    values = ap (list_all is_some) (all_are elements) ∙ all_some-map value (flat_map (places_in (names_of items) base) elements) ∙ each.values;
    once = λ v member.
        let at = based.members v member in
        subst (λ (x : Value). IsOnce (all_values items base elements) x) (sym at.2)
        (subst (λ l. IsOnce l (value at.0)) (sym (all_are elements)) (once_value (flat_map (places_in (names_of items) base) elements) at.0 (each.once at.0 at.1)));
  }

  splits_each : (elements : List PartElement) → Splits items base elements → AreEachOnce size (flat_map (places_in (names_of items) base) elements)
  splits_each elements splits = record {
    values = sym (all_some-map value (flat_map (places_in (names_of items) base) elements)) ∙ sym (ap (list_all is_some) (all_are elements)) ∙ splits.values;
    once = λ k lt. once_place (flat_map (places_in (names_of items) base) elements) k (subst (λ l. IsOnce l (value k)) (all_are elements) (splits.once (value k) (based.each k lt)));
  }

  -- the value at a place of the carrier
  carrier_at : (k : ℕ) (v : Value) → slice_get (carrier (widths_of items) base) k ≡ Some v → (k < size) × (value k ≡ v)
  carrier_at k v h =
      let at = sym (ap (λ l. slice_get l k) based.carrier_is) ∙ h in
      let lt : k < size = omega (arith, slice_get_within (map value (range_with_len 0 size)) k v at, length-map-range_with_len value 0 size) in
      (lt, sym (get_or-map-range_with_len value 0 size k k v lt (omega arith)) ∙ get_or_from_slice_get (map value (range_with_len 0 size)) k v v at)

  -- the element of an entry lists the value
  entry_lists : (elements : List PartElement) (listed : List (Option ℕ)) (k n : ℕ) → IsEntry (map (places_in (names_of items) base) elements) listed k (Some n)
      → (e : PartElement) × (slice_get elements n ≡ Some e) × Lists items base e (value k)
  entry_lists elements listed k n entry =
      let there = entry.1 in
      let found = option_some (places_in (names_of items) base) (slice_get elements n) there.0 (sym (slice_get-map (places_in (names_of items) base) elements n) ∙ there.1) in
      let at = at_contains there.0 (Some k) there.2 in
      (found.0, found.1, contains_at (values_in items base found.0) at.0 (Some (value k)) (ap (λ l. slice_get l at.0) (values_are found.0.values) ∙ value_there (places_in (names_of items) base found.0) at.0 k (ap (λ l. slice_get l at.0) found.2 ∙ at.1)))

  module _ (elements : List PartElement) (entries : List ℕ) (sized : length entries ≡ size)
      (filled : IsFilled (map (places_in (names_of items) base) elements) (flat_map (places_in (names_of items) base) elements) (map Some entries)) where
    entry_at : (k : ℕ) → k < size → IsEntry (map (places_in (names_of items) base) elements) (flat_map (places_in (names_of items) base) elements) k (Some (get_or entries k 0))
    entry_at k lt =
        subst (IsEntry (map (places_in (names_of items) base) elements) (flat_map (places_in (names_of items) base) elements) k) (get_or-map Some entries k 0 None (omega (arith, sized)))
        (filled.entries k (omega (arith, length-map entries Some, sized)))

    all_once : AreEachOnce size (flat_map (places_in (names_of items) base) elements)
    all_once = record { values = filled.values; once = λ k lt. (entry_at k lt).0 }

    lists_at : (k : ℕ) (v : Value) → slice_get (carrier (widths_of items) base) k ≡ Some v → (e : PartElement) × (element_at elements entries k ≡ Some e) × Lists items base e v
    lists_at k v h =
        let at = carrier_at k v h in
        let lists = entry_lists elements (flat_map (places_in (names_of items) base) elements) k (get_or entries k 0) (entry_at k at.0) in
        (lists.0, ap (option_and_then (slice_get elements)) (slice_get-get_or entries k 0 (omega (arith, sized, at.0))) ∙ lists.1, subst (Lists items base lists.0) at.1 lists.2)

    table_done : is_splittable base ≡ true → Splits items base elements × IsPartTable items base elements entries
    table_done splittable = (each_splits elements splittable all_once, record { size = sized ∙ sym (base_size items base size value based); lists = lists_at })

module _ (names : List (List ℕ × Declared)) (items : List Declaration) (base : Sort) (size : ℕ) (same : names ≡ names_of items) (splittable : is_splittable base ≡ true) (sized : size ≡ length (carrier (widths_of items) base)) where
  by_base : {P : ℕ → Type 0} → ((n : ℕ) (value : ℕ → Value) → IsBase items base n value → P n) → P size
  by_base {P} f = let b = base_found items base splittable in subst P (sym (base_size items base b.0 b.1 b.2) ∙ sym sized) (f b.0 b.1 b.2)

  -- a listed value has its place below the size
  pub within_size : (c : ConstExpr) → IfSome (place_of names base c) (λ k. k < size)
  within_size c = subst (λ (ns : List (List ℕ × Declared)). IfSome (place_of ns base c) (λ k. k < size)) (sym same) (by_base {P = λ n. IfSome (place_of (names_of items) base c) (λ k. k < n)} (λ n value based. based.within c))

  -- of a partition each place is listed once
  pub each_once : (elements : List PartElement) → Splits items base elements → AreEachOnce size (flat_map (places_in names base) elements)
  each_once elements splits =
      subst (λ (ns : List (List ℕ × Declared)). AreEachOnce size (flat_map (places_in ns base) elements)) (sym same)
      (by_base {P = λ n. AreEachOnce n (flat_map (places_in (names_of items) base) elements)} (λ n value based. splits_each items base n value based elements splits))

  -- too few values
  pub not_enough : (elements : List PartElement) → (size ≤ sum (map values_listed elements) → ⊥) → Splits items base elements → ⊥
  not_enough elements few splits = few (omega (arith, each_enough size (flat_map (places_in names base) elements) (each_once elements splits), listed_length names base elements))

  -- a table with no gap
  pub all_listed : (elements : List PartElement) (entries : List ℕ) → length entries ≡ size → IsFilled (map (places_in names base) elements) (flat_map (places_in names base) elements) (map Some entries)
      → Splits items base elements × IsPartTable items base elements entries
  all_listed elements entries long filled =
      by_base {P = λ n. length entries ≡ n → Splits items base elements × IsPartTable items base elements entries}
      (λ n value based l. table_done items base n value based elements entries l
      (subst (λ (ns : List (List ℕ × Declared)). IsFilled (map (places_in ns base) elements) (flat_map (places_in ns base) elements) (map Some entries)) same filled) splittable) long
