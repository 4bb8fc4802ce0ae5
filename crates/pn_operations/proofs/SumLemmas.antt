-- Sums of multisets of values, and many of them taken away.
use Rattle.std.proofs.Common.{◌≡◌, ◌⊎◌, inl, inr, ℕ, ◌+◌, ◌-◌, ◌*◌, ◌<◌, ◌≤◌, ◌↔◌, List, [], ◌∷◌, ◌++◌, length, take, drop, Option, Some, None, refl, sym, ap, ◌∙◌, subst, arith}
use Rattle.std.proofs.lemmas.Grind.{common_steps}
use Rattle.std.proofs.Math.Seq.{drop-append_seam}
use Rattle.std.proofs.lemmas.List.{take-append-drop, drop-append-le, length-append}
use Rattle.std.specs.List.{sum_by}
use Rattle.std.proofs.lemmas.List.Sums.{sum_by-cons}
use Rattle.std.specs.Option.{option_and_then}
use Rattle.pn_bag.specs.Algebra.{joined, scaled}
use Rattle.pn_bag.specs.Bag.{IsBag}
use Rattle.pn_bag.specs.Counts.{count_of, IsMultiset}
use Rattle.pn_bag.specs.declared.TheConstants.{MAX_COUNT}
use Rattle.pn_bag.proofs.Summing.{count_of-joined, count_of-scaled}
use Rattle.pn_bag.proofs.Canonical.{multiset-joined, multiset-scaled, same_entries}
use Rattle.pn_values.specs.Order.{value_cmp}
use Rattle.pn_values.specs.OrderLaws.{values_total, values_apart}
use Rattle.pn_values.specs.declared.value.Value.{Value}
use Rattle.pn_operations.specs.Halves.{sum_of_two, sum_of_both}
use Rattle.pn_operations.specs.Multisets.{within_counts, total_bag, bag_sum, bag_difference, bag_without}
use Rattle.pn_operations.proofs.CountLemmas.{bag_multiset, bag_bound, within_bag, within_none, within_cases, IsLeft, Finds, found_once, difference_finds}

pub total_multiset : (bags : List (List (Value × ℕ))) → IsMultiset value_cmp (total_bag bags)
total_multiset [] = record { rising = tt; positive = tt }
total_multiset (bag ∷ bags) = multiset-joined values_total (total_bag bags) bag (total_multiset bags)

total-append : (xs ys : List (List (Value × ℕ))) (key : Value) → count_of value_cmp (total_bag (xs ++ ys)) key ≡ count_of value_cmp (total_bag xs) key + count_of value_cmp (total_bag ys) key
total-append [] ys key = omega arith
total-append (x ∷ xs) ys key = omega (arith, count_of-joined values_total (total_bag (xs ++ ys)) x key, count_of-joined values_total (total_bag xs) x key, total-append xs ys key)

total_both : (xs ys : List (List (Value × ℕ))) → total_bag (xs ++ ys) ≡ joined value_cmp (total_bag xs) (total_bag ys)
total_both xs ys =
    same_entries values_total values_apart (total_bag (xs ++ ys)) (joined value_cmp (total_bag xs) (total_bag ys)) (total_multiset (xs ++ ys)) (multiset-joined values_total (total_bag xs) (total_bag ys) (total_multiset xs))
    (λ key. omega (arith, total-append xs ys key, count_of-joined values_total (total_bag xs) (total_bag ys) key))

-- each value has the sum of its counts
pub total_counts : (bags : List (List (Value × ℕ))) (value : Value) → count_of value_cmp (total_bag bags) value ≡ sum_by (λ bag. count_of value_cmp bag value) bags
total_counts [] value = refl
total_counts (bag ∷ bags) value = omega (arith, count_of-joined values_total (total_bag bags) bag value, total_counts bags value, sum_by-cons (λ entries. count_of value_cmp entries value) bag bags)

pub sum_none : (bags : List (List (Value × ℕ))) → (bag_sum bags ≡ None) ↔ ((value : Value) × (MAX_COUNT < count_of value_cmp (total_bag bags) value))
sum_none bags = (none (within_cases (total_bag bags) (total_multiset bags)), λ more. within_none (total_bag bags) (total_multiset bags) more.0 more.1)
  where
    none : ((bag_sum bags ≡ Some (total_bag bags)) × ((key : Value) → count_of value_cmp (total_bag bags) key ≤ MAX_COUNT)) ⊎ ((bag_sum bags ≡ None) × ((key : Value) × (MAX_COUNT < count_of value_cmp (total_bag bags) key)))
        → bag_sum bags ≡ None → (value : Value) × (MAX_COUNT < count_of value_cmp (total_bag bags) value)
    none (inl c) e = let clash : Some (total_bag bags) ≡ None = sym c.0 ∙ e in absurd cc
    none (inr c) e = c.1

-- a sum is there and each of its counts within the bound, or it is not and a count passes
abbrev SumCase : List (List (Value × ℕ)) → Type 0
SumCase bags = ((bag_sum bags ≡ Some (total_bag bags)) × ((key : Value) → count_of value_cmp (total_bag bags) key ≤ MAX_COUNT)) ⊎ ((bag_sum bags ≡ None) × ((key : Value) × (MAX_COUNT < count_of value_cmp (total_bag bags) key)))

sum_cases : (bags : List (List (Value × ℕ))) → SumCase bags
sum_cases bags = within_cases (total_bag bags) (total_multiset bags)

-- the sum of two lists of multisets, by the sum of each
pub sum-append : (xs ys : List (List (Value × ℕ))) → sum_of_both (bag_sum xs) (bag_sum ys) ≡ bag_sum (xs ++ ys)
sum-append xs ys = by_cases (sum_cases xs) (sum_cases ys)
  where
    by_cases : SumCase xs → SumCase ys → sum_of_both (bag_sum xs) (bag_sum ys) ≡ bag_sum (xs ++ ys)
    by_cases (inl x) (inl y) = ap (λ o. sum_of_both o (bag_sum ys)) x.0 ∙ ap (λ o. sum_of_both (Some (total_bag xs)) o) y.0 ∙ ap within_counts (sym (total_both xs ys))
    by_cases (inl x) (inr y) =
        ap (λ o. sum_of_both o (bag_sum ys)) x.0 ∙ ap (λ o. sum_of_both (Some (total_bag xs)) o) y.0
        ∙ sym (within_none (total_bag (xs ++ ys)) (total_multiset (xs ++ ys)) y.1.0 (omega (arith, y.1.1, total-append xs ys y.1.0)))
    by_cases (inr x) y =
        ap (λ o. sum_of_both o (bag_sum ys)) x.0
        ∙ sym (within_none (total_bag (xs ++ ys)) (total_multiset (xs ++ ys)) x.1.0 (omega (arith, x.1.1, total-append xs ys x.1.0)))

-- the sum of one multiset is that one
pub sum_of_one : (bag : List (Value × ℕ)) → IsBag value_cmp bag → bag_sum (bag ∷ []) ≡ Some bag
sum_of_one bag is =
    ap within_counts (same_entries values_total values_apart (joined value_cmp [] bag) bag (total_multiset (bag ∷ [])) (bag_multiset bag is) (λ key. omega (arith, count_of-joined values_total [] bag key)))
    ∙ within_bag bag is

-- two multisets whose sum has no count past the bound, and two with such a count
pub two_fit : (one other sum : List (Value × ℕ)) → sum ≡ joined value_cmp one other → IsBag value_cmp sum → Some sum ≡ sum_of_two one other
two_fit one other sum same is = sym (within_bag sum is) ∙ ap within_counts same

pub two_pass : (one other : List (Value × ℕ)) → IsBag value_cmp one → ((key : Value) × (MAX_COUNT < count_of value_cmp one key + count_of value_cmp other key)) → None ≡ sum_of_two one other
two_pass one other is more =
    sym (within_none (joined value_cmp one other) (multiset-joined values_total one other (bag_multiset one is)) more.0 (omega (arith, more.1, count_of-joined values_total one other more.0)))

-- the same of a multiple
pub multiple_fits : (n : ℕ) (bag multiple : List (Value × ℕ)) → multiple ≡ scaled n bag → IsBag value_cmp multiple → Some multiple ≡ within_counts (scaled n bag)
multiple_fits n bag multiple same is = sym (within_bag multiple is) ∙ ap within_counts same

pub multiple_passes : (n : ℕ) (bag : List (Value × ℕ)) → IsBag value_cmp bag → ((key : Value) × (MAX_COUNT < n * count_of value_cmp bag key)) → None ≡ within_counts (scaled n bag)
multiple_passes n bag is more =
    sym (within_none (scaled n bag) (multiset-scaled value_cmp n bag (bag_multiset bag is)) more.0 (subst (λ m. MAX_COUNT < m) (sym (count_of-scaled value_cmp n bag more.0)) more.1))

-- ---- the last of a list

split_last : (bags : List (List (Value × ℕ))) (from to : ℕ) → from ≤ to → to ≤ length bags → drop from (take to bags) ++ drop to bags ≡ drop from bags
split_last bags from to before within =
    let reached : from ≤ length (take to bags) = grind (arith, common_steps) in
    sym (drop-append-le from (take to bags) (drop to bags) reached) ∙ ap (drop from) (take-append-drop to bags)

-- the sum of the last one
pub last_sum : (bags front : List (List (Value × ℕ))) (bag : List (Value × ℕ)) (count : ℕ) → count ≡ 1 → bags ≡ front ++ bag ∷ [] → IsBag value_cmp bag → Some bag ≡ bag_sum (drop (length bags - count) bags)
last_sum bags front bag count one split is =
    let size : length bags - count ≡ length front = omega (arith, ap length split, length-append front (bag ∷ []), one) in
    sym (sum_of_one bag is) ∙ sym (ap bag_sum (ap (λ n. drop n bags) size ∙ ap (drop (length front)) split ∙ drop-append_seam front (bag ∷ [])))

-- the sum of the last ones, by the sums of those in the last half and of those before
pub halves_sum : (bags rest : List (List (Value × ℕ))) (count half : ℕ) (left right : Option (List (Value × ℕ))) → half ≤ count → count ≤ length bags
    → rest ≡ take (length bags - half) bags
    → right ≡ bag_sum (drop (length bags - half) bags)
    → left ≡ bag_sum (drop (length rest - (count - half)) rest)
    → sum_of_both left right ≡ bag_sum (drop (length bags - count) bags)
halves_sum bags rest count half left right small within is_rest is_right is_left =
    let to = length bags - half in
    let from = length bags - count in
    let size : length (take to bags) ≡ to = grind (arith, common_steps) in
    let start : length rest - (count - half) ≡ from = omega (arith, size, ap length is_rest) in
    let is_front : left ≡ bag_sum (drop from (take to bags)) = is_left ∙ ap (λ n. bag_sum (drop n rest)) start ∙ ap (λ l. bag_sum (drop from l)) is_rest in
    ap (λ o. sum_of_both o right) is_front ∙ ap (sum_of_both (bag_sum (drop from (take to bags)))) is_right
    ∙ sum-append (drop from (take to bags)) (drop to bags)
    ∙ ap bag_sum (split_last bags from to (omega arith) (omega arith))

-- ---- many taken away

pub without_finds : (whole : List (Value × ℕ)) (parts : List (List (Value × ℕ))) → IsBag value_cmp whole → Finds whole (total_bag parts) (bag_without whole parts)
without_finds whole [] is = record {
  some = λ rest e. let same : whole ≡ rest = cc in subst (IsLeft whole []) same (record { bag = is; counts = λ key. omega arith });
  none = λ e includes. absurd cc;
}
without_finds whole (part ∷ parts) is = by_first (bag_difference whole part) (difference_finds whole part is) (λ rest. without_finds rest parts)
  where
    sum_counts : (key : Value) → count_of value_cmp (joined value_cmp (total_bag parts) part) key ≡ count_of value_cmp (total_bag parts) key + count_of value_cmp part key
    sum_counts key = count_of-joined values_total (total_bag parts) part key

    by_first : (first : Option (List (Value × ℕ))) → Finds whole part first
        → ((rest : List (Value × ℕ)) → IsBag value_cmp rest → Finds rest (total_bag parts) (bag_without rest parts))
        → Finds whole (joined value_cmp (total_bag parts) part) (option_and_then (λ rest. bag_without rest parts) first)
    by_first None found later = record {
      some = λ rest e. absurd cc;
      none = λ e includes. found.none refl (λ key. omega (arith, includes key, sum_counts key));
    }
    by_first (Some rest) found later =
        let left = found.some rest refl in
        let goes = later rest left.bag in
        record {
          some = λ last e. record { bag = (goes.some last e).bag; counts = λ key. omega (arith, (goes.some last e).counts key, left.counts key, sum_counts key) };
          none = λ e includes. goes.none e (λ key. omega (arith, includes key, left.counts key, sum_counts key));
        }

-- to take away one after another is to take away the sum
pub without_sum : (whole : List (Value × ℕ)) (parts : List (List (Value × ℕ))) → IsBag value_cmp whole → option_and_then (bag_difference whole) (bag_sum parts) ≡ bag_without whole parts
without_sum whole parts is = by_cases (sum_cases parts)
  where
    by_cases : SumCase parts → option_and_then (bag_difference whole) (bag_sum parts) ≡ bag_without whole parts
    by_cases (inl c) =
        ap (option_and_then (bag_difference whole)) c.0
        ∙ found_once whole (total_bag parts) (bag_difference whole (total_bag parts)) (bag_without whole parts) (difference_finds whole (total_bag parts) is) (without_finds whole parts is)
    by_cases (inr c) =
        ap (option_and_then (bag_difference whole)) c.0
        ∙ found_once whole (total_bag parts) None (bag_without whole parts) (record { some = λ rest e. absurd cc; none = λ e includes. omega (arith, includes c.1.0, c.1.1, bag_bound whole is c.1.0) }) (without_finds whole parts is)

pub some_left : (whole : List (Value × ℕ)) (parts : List (List (Value × ℕ))) (sum : Option (List (Value × ℕ))) (part : List (Value × ℕ)) → IsBag value_cmp whole → sum ≡ bag_sum parts → sum ≡ Some part → bag_difference whole part ≡ bag_without whole parts
some_left whole parts sum part is is_sum some = ap (option_and_then (bag_difference whole)) (sym some ∙ is_sum) ∙ without_sum whole parts is

pub none_left : (whole : List (Value × ℕ)) (parts : List (List (Value × ℕ))) (sum : Option (List (Value × ℕ))) → IsBag value_cmp whole → sum ≡ bag_sum parts → sum ≡ None → None ≡ bag_without whole parts
none_left whole parts sum is is_sum none = ap (option_and_then (bag_difference whole)) (sym none ∙ is_sum) ∙ without_sum whole parts is
