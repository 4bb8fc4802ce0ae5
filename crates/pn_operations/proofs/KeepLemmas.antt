-- What the operators give is of the sort of what they were given: multisets whose values all have a property, texts, lists, numbers.
use Rattle.std.proofs.Common.{◌≡◌, ℕ, zero, suc, ◌+◌, ◌-◌, ◌<◌, ◌≤◌, nat_le, nat_lt, ℤ, pos, negsuc, int_le, Bool, true, false, ◌&&◌, cond, List, [], ◌∷◌, ◌++◌, length, map, Option, Some, None, refl, ◌∙◌, arith}
use Rattle.std.proofs.lemmas.Bool.Decides.{nat_tests}
use Rattle.std.proofs.lemmas.List.Folds.{list_all-append}
use Rattle.std.specs.List.{filter, list_all, slice_get}
use Rattle.std.specs.Option.{IfSome, option_map, option_and_then}
use Rattle.std.specs.Ordering.{match_ordering}
use Rattle.std.specs.declared.cmp.Ordering.{Ordering}
use Rattle.std.specs.declared.cmp.Ordering.TheVariants.{Less, Equal, Greater}
use Rattle.pn_facts.proofs.Truths.{and_left, and_right, and_both}
use Rattle.pn_text.specs.Characters.{is_text}
use Rattle.pn_text.proofs.TextLemmas.{is_text-append}
use Rattle.pn_bag.specs.Algebra.{inserted, added, joined, scaled}
use Rattle.pn_bag.specs.Bag.{IsBag}
use Rattle.pn_bag.specs.Counts.{count_of, Every, IsMultiset}
use Rattle.pn_bag.specs.declared.TheConstants.{MAX_COUNT}
use Rattle.pn_bag.proofs.Canonical.{multiset-scaled}
use Rattle.pn_bag.proofs.Everywhere.{every_both}
use Rattle.pn_bag.proofs.Sifting.{every-multiplied}
use Rattle.pn_carriers.specs.Members.{least_number, greatest_number}
use Rattle.pn_values.specs.Order.{value_cmp}
use Rattle.pn_values.specs.declared.value.Value.{Value}
use Rattle.pn_operations.specs.Lists.{list_concatenation, list_member}
use Rattle.pn_operations.specs.Multisets.{as_count, within_counts, bag_of_value, total_bag, bag_sum, does_include, without_part, bag_difference, bag_without, bag_multiple}
use Rattle.pn_operations.specs.Numbers.{in_range}
use Rattle.pn_operations.specs.Rows.{next_place, previous_place}
use Rattle.pn_operations.specs.Texts.{text_concatenation}
use Rattle.pn_operations.proofs.CountLemmas.{at_most, each_passes, bag_multiset, lessened_keys, left_is, test_includes}
use Rattle.pn_operations.proofs.SumLemmas.{total_multiset}

-- ---- the values of a multiset

module _ {K : Type 0} (cmp : K → K → Ordering) (P : K → Type 0) where
  every-inserted : (xs : List (K × ℕ)) (new : K × ℕ) → Every (λ e. P e.0) xs → P new.0 → Every (λ e. P e.0) (inserted cmp xs new)
  every-inserted [] new all p = (p, tt)
  every-inserted (x ∷ xs) new all p = step (cmp new.0 x.0) (every-inserted xs new all.1 p)
    where
      step : (o : Ordering) → Every {X = K × ℕ} (λ e. P e.0) (inserted cmp xs new) → Every {X = K × ℕ} (λ e. P e.0) (match_ordering o (new ∷ x ∷ xs) ((x.0, x.1 + new.1) ∷ xs) (x ∷ inserted cmp xs new))
      step Less rest = (p, all)
      step Equal rest = all
      step Greater rest = (all.0, rest)

  every-added : (xs : List (K × ℕ)) (key : K) (n : ℕ) → Every (λ e. P e.0) xs → P key → Every (λ e. P e.0) (added cmp xs key n)
  every-added xs key zero all p = all
  every-added xs key (suc n) all p = every-inserted xs (key, suc n) all p

  every-joined : (xs ys : List (K × ℕ)) → Every (λ e. P e.0) xs → Every (λ e. P e.0) ys → Every (λ e. P e.0) (joined cmp xs ys)
  every-joined xs [] ps qs = ps
  every-joined xs (y ∷ ys) ps qs = every-joined (added cmp xs y.0 y.1) ys (every-added xs y.0 y.1 ps qs.0) qs.1

every_filtered : {X : Type 0} (P : X → Type 0) (test : X → Bool) (xs : List X) → Every P xs → Every P (filter test xs)
every_filtered P test [] all = tt
every_filtered P test (x ∷ xs) all = step (test x) (every_filtered P test xs all.1)
  where
    step : (b : Bool) → Every P (filter test xs) → Every P (cond b (x ∷ filter test xs) (filter test xs))
    step true rest = (all.0, rest)
    step false rest = rest

-- a multiset whose values all have P
abbrev pub IsBagOf : (Value → Type 0) → List (Value × ℕ) → Type 0
IsBagOf P bag = IsBag value_cmp bag × Every (λ e. P e.0) bag

pub none_in_it : (P : Value → Type 0) → IsBagOf P []
none_in_it P = (record { rising = tt; counted = tt }, tt)

within_of : (P : Value → Type 0) (xs : List (Value × ℕ)) → IsMultiset value_cmp xs → Every (λ e. P e.0) xs → IfSome (within_counts xs) (IsBagOf P)
within_of P xs is all = by_test (list_all (λ e. nat_le e.1 9223372036854775807) xs) refl
  where
    by_test : (b : Bool) → list_all (λ e. nat_le e.1 9223372036854775807) xs ≡ b → IfSome (cond b (Some xs) None) (IsBagOf P)
    by_test true h = (
      record {
        rising = is.rising;
        counted = every_both (λ e. 0 < e.1) (λ e. e.1 ≤ MAX_COUNT) (λ e. (0 < e.1) × (e.1 ≤ MAX_COUNT)) (λ e p q. (p, q)) xs is.positive (each_passes (λ e. nat_le e.1 9223372036854775807) (λ e. e.1 ≤ MAX_COUNT) (λ e p. at_most e.1 9223372036854775807 p) xs h);
      },
      all,
    )
    by_test false h = tt

-- a value some number of times
pub value_of : (P : Value → Type 0) (number : ℤ) (value : Value) → P value → IfSome (bag_of_value number value) (IsBagOf P)
value_of P (negsuc n) value p = tt
value_of P (pos n) value p = by_test (nat_le n 9223372036854775807) refl
  where
    so_often : (k : ℕ) → k ≤ MAX_COUNT → IsBagOf P (added value_cmp [] value k)
    so_often zero h = none_in_it P
    so_often (suc k) h = (record { rising = (tt, tt); counted = ((omega arith, h), tt) }, (p, tt))

    by_test : (b : Bool) → nat_le n 9223372036854775807 ≡ b → IfSome (option_map (λ count. added value_cmp [] value count) (cond b (Some n) None)) (IsBagOf P)
    by_test true h = so_often n (at_most n 9223372036854775807 h)
    by_test false h = tt

every-total : (P : Value → Type 0) (bags : List (List (Value × ℕ))) → Every (IsBagOf P) bags → Every (λ e. P e.0) (total_bag bags)
every-total P [] all = tt
every-total P (bag ∷ bags) all = every-joined value_cmp P (total_bag bags) bag (every-total P bags all.1) all.0.1

-- a sum
pub sum_of : (P : Value → Type 0) (bags : List (List (Value × ℕ))) → Every (IsBagOf P) bags → IfSome (bag_sum bags) (IsBagOf P)
sum_of P bags all = within_of P (total_bag bags) (total_multiset bags) (every-total P bags all)

difference_of : (P : Value → Type 0) (whole part : List (Value × ℕ)) → IsBagOf P whole → IfSome (bag_difference whole part) (IsBagOf P)
difference_of P whole part is = by_test (does_include whole part) refl
  where
    by_test : (b : Bool) → does_include whole part ≡ b → IfSome (cond b (Some (without_part whole part)) None) (IsBagOf P)
    by_test true h = (
      (left_is whole part is.0 (test_includes whole part h)).bag,
      every_filtered (λ e. P e.0) (λ e. nat_lt 0 e.1) (map (λ e. (e.0, e.1 - count_of value_cmp part e.0)) whole) (lessened_keys P part whole is.1),
    )
    by_test false h = tt

-- what is left
pub rest_of : (P : Value → Type 0) (whole : List (Value × ℕ)) (parts : List (List (Value × ℕ))) → IsBagOf P whole → IfSome (bag_without whole parts) (IsBagOf P)
rest_of P whole [] is = is
rest_of P whole (part ∷ parts) is = step (bag_difference whole part) (difference_of P whole part is) (λ rest. rest_of P rest parts)
  where
    step : (first : Option (List (Value × ℕ))) → IfSome first (IsBagOf P) → ((rest : List (Value × ℕ)) → IsBagOf P rest → IfSome (bag_without rest parts) (IsBagOf P)) → IfSome (option_and_then (λ rest. bag_without rest parts) first) (IsBagOf P)
    step None left later = tt
    step (Some rest) left later = later rest left

every-scaled : (P : Value → Type 0) (n : ℕ) (bag : List (Value × ℕ)) → Every (λ e. P e.0) bag → Every (λ e. P e.0) (scaled n bag)
every-scaled P zero bag all = tt
every-scaled P (suc n) bag all = every-multiplied P (suc n) bag all

-- a multiple
pub multiple_of : (P : Value → Type 0) (number : ℤ) (bag : List (Value × ℕ)) → IsBagOf P bag → IfSome (bag_multiple number bag) (IsBagOf P)
multiple_of P number bag is = step (as_count number)
  where
    step : (count : Option ℕ) → IfSome (option_and_then (λ n. within_counts (scaled n bag)) count) (IsBagOf P)
    step None = tt
    step (Some n) = within_of P (scaled n bag) (multiset-scaled value_cmp n bag (bag_multiset bag is.0)) (every-scaled P n bag is.1)

-- ---- texts and lists

pub joined_text : (one other : List ℕ) → is_text one ≡ true → is_text other ≡ true → IfSome (text_concatenation one other) (λ text. is_text text ≡ true)
joined_text one other p q = step (nat_le (length (one ++ other)) 16777216)
  where
    step : (b : Bool) → IfSome (cond b (Some (one ++ other)) None) (λ text. is_text text ≡ true)
    step true = is_text-append one other p q
    step false = tt

pub joined_list : (test : Value → Bool) (one other : List Value) → list_all test one ≡ true → list_all test other ≡ true → IfSome (list_concatenation one other) (λ items. list_all test items ≡ true)
joined_list test one other p q = step (nat_le (length (one ++ other)) 1048576)
  where
    step : (b : Bool) → IfSome (cond b (Some (one ++ other)) None) (λ items. list_all test items ≡ true)
    step true = list_all-append test one other ∙ and_both (list_all test one) (list_all test other) p q
    step false = tt

item_passes : (test : Value → Bool) (items : List Value) (place : ℕ) → list_all test items ≡ true → IfSome (slice_get items place) (λ value. test value ≡ true)
item_passes test [] place h = tt
item_passes test (x ∷ xs) zero h = and_left (test x) (list_all test xs) h
item_passes test (x ∷ xs) (suc place) h = item_passes test xs place (and_right (test x) (list_all test xs) h)

-- an item of a list
pub member_passes : (test : Value → Bool) (items : List Value) (place : ℤ) → list_all test items ≡ true → IfSome (list_member items place) (λ value. test value ≡ true)
member_passes test items (pos place) h = item_passes test items place h
member_passes test items (negsuc n) h = tt

-- ---- numbers and constants

pub ranged : (number : ℤ) → IfSome (in_range number) (λ n. (int_le least_number n && int_le n greatest_number) ≡ true)
ranged number = by_test (int_le least_number number && int_le number greatest_number) refl
  where
    by_test : (b : Bool) → (int_le least_number number && int_le number greatest_number) ≡ b → IfSome (cond b (Some number) None) (λ n. (int_le least_number n && int_le n greatest_number) ≡ true)
    by_test true h = h
    by_test false h = tt

pub next_within : (round place : ℕ) → place < round → next_place round place < round
next_within round place h = by_test (nat_lt (suc place) round) refl
  where
    by_test : (b : Bool) → nat_lt (suc place) round ≡ b → cond b (suc place) 0 < round
    by_test true is = grind (arith, nat_tests)
    by_test false is = omega arith

pub previous_within : (round place : ℕ) → place < round → previous_place round place < round
previous_within round zero h = omega arith
previous_within round (suc place) h = omega arith
