-- Multisets of values by their counts: inclusion, what is left, and where each count is within the bound.
use Rattle.std.proofs.Common.{◌≡◌, ◌⊎◌, inl, inr, ℕ, zero, suc, ◌+◌, ◌-◌, ◌<◌, ◌≤◌, ◌↔◌, IsTrue, nat_le, nat_lt, Bool, true, false, ◌&&◌, cond, List, [], ◌∷◌, map, Option, Some, None, refl, sym, ap, ◌∙◌, subst, arith}
use Rattle.std.proofs.lemmas.Bool.{false≢true}
use Rattle.std.proofs.lemmas.Bool.Decides.{nat_tests}
use Rattle.std.specs.List.{list_all}
use Rattle.std.specs.Ordering.{eq_by_cmp, is_eq}
use Rattle.std.specs.declared.cmp.Ordering.{Ordering}
use Rattle.std.specs.declared.cmp.Ordering.TheVariants.{Less, Equal, Greater}
use Rattle.pn_facts.proofs.Truths.{and_left, and_right, and_both}
use Rattle.pn_bag.specs.Algebra.{HasKey}
use Rattle.pn_bag.specs.Bag.{IsBag}
use Rattle.pn_bag.specs.Counts.{count_in, count_of, Every, IsRising, Includes, IsSame, IsMultiset}
use Rattle.pn_bag.specs.declared.TheConstants.{MAX_COUNT}
use Rattle.pn_bag.proofs.Everywhere.{every_weaker, every_one, every_both}
use Rattle.pn_bag.proofs.Counting.{count_in_as, count_of_above, above_all_tied}
use Rattle.pn_bag.proofs.Walking.{count_bound}
use Rattle.pn_bag.proofs.Sifting.{counted, count_of-counted, bag-counted}
use Rattle.pn_bag.proofs.Canonical.{has_entry, entries_count, same_entries}
use Rattle.pn_values.specs.Order.{value_cmp}
use Rattle.pn_values.specs.OrderLaws.{values_total, values_apart, values_tie}
use Rattle.pn_values.specs.declared.value.Value.{Value}
use Rattle.pn_operations.specs.Multisets.{within_counts, does_include, without_part, bag_difference, is_same_bag}

-- ---- lists

pub each_passes : {X : Type 0} (f : X → Bool) (P : X → Type 0) → ((x : X) → f x ≡ true → P x) → (xs : List X) → list_all f xs ≡ true → Every P xs
each_passes f P holds [] h = tt
each_passes f P holds (x ∷ xs) h = (holds x (and_left (f x) (list_all f xs) h), each_passes f P holds xs (and_right (f x) (list_all f xs) h))

pub all_pass : {X : Type 0} (f : X → Bool) (P : X → Type 0) → ((x : X) → P x → f x ≡ true) → (xs : List X) → Every P xs → list_all f xs ≡ true
all_pass f P holds [] all = refl
all_pass f P holds (x ∷ xs) all = and_both (f x) (list_all f xs) (holds x all.0) (all_pass f P holds xs all.1)

-- where not all pass, one fails
pub one_fails : {X : Type 0} (f : X → Bool) (P : X → Type 0) (xs : List X) → Every P xs → list_all f xs ≡ false → (x : X) × (f x ≡ false) × P x
one_fails f P [] all h = absurd (false≢true (sym h))
one_fails {X = X} f P (x ∷ xs) all h = step (f x) refl (one_fails f P xs all.1) h
  where
    step : (b : Bool) → f x ≡ b → (list_all f xs ≡ false → (y : X) × (f y ≡ false) × P y) → (b && list_all f xs) ≡ false → (y : X) × (f y ≡ false) × P y
    step true is later h = later h
    step false is later h = (x, is, all.0)

pub at_most : (a b : ℕ) → nat_le a b ≡ true → a ≤ b
at_most a b h = grind (arith, nat_tests)

is_at_most : (a b : ℕ) → a ≤ b → nat_le a b ≡ true
is_at_most a b h = grind (arith, nat_tests)

above : (a b : ℕ) → nat_le a b ≡ false → b < a
above a b h = grind (arith, nat_tests)

-- ---- counts within the bound

pub bag_multiset : (xs : List (Value × ℕ)) → IsBag value_cmp xs → IsMultiset value_cmp xs
bag_multiset xs is = record {
  rising = is.rising;
  positive = every_weaker (λ e. (0 < e.1) × (e.1 ≤ MAX_COUNT)) (λ e. 0 < e.1) (λ e p. p.0) xs is.counted;
}

pub bag_bound : (xs : List (Value × ℕ)) → IsBag value_cmp xs → (key : Value) → count_of value_cmp xs key ≤ MAX_COUNT
bag_bound xs is key = count_bound values_total MAX_COUNT xs is.rising is.counted key

bag_fits : (xs : List (Value × ℕ)) → IsBag value_cmp xs → list_all (λ e. nat_le e.1 9223372036854775807) xs ≡ true
bag_fits xs is = all_pass (λ e. nat_le e.1 9223372036854775807) (λ e. (0 < e.1) × (e.1 ≤ MAX_COUNT)) (λ e p. is_at_most e.1 9223372036854775807 p.1) xs is.counted

pub within_bag : (xs : List (Value × ℕ)) → IsBag value_cmp xs → within_counts xs ≡ Some xs
within_bag xs is = ap (λ b. cond b (Some xs) None) (bag_fits xs is)

fits_bound : (xs : List (Value × ℕ)) → IsMultiset value_cmp xs → list_all (λ e. nat_le e.1 9223372036854775807) xs ≡ true → (key : Value) → count_of value_cmp xs key ≤ MAX_COUNT
fits_bound xs is h key =
    count_bound values_total MAX_COUNT xs is.rising
    (every_both (λ e. 0 < e.1) (λ e. e.1 ≤ MAX_COUNT) (λ e. (0 < e.1) × (e.1 ≤ MAX_COUNT)) (λ e p q. (p, q)) xs is.positive (each_passes (λ e. nat_le e.1 9223372036854775807) (λ e. e.1 ≤ MAX_COUNT) (λ e p. at_most e.1 9223372036854775807 p) xs h))
    key

pub within_none : (xs : List (Value × ℕ)) → IsMultiset value_cmp xs → (key : Value) → MAX_COUNT < count_of value_cmp xs key → within_counts xs ≡ None
within_none xs is key more = by_test (list_all (λ e. nat_le e.1 9223372036854775807) xs) refl
  where
    by_test : (b : Bool) → list_all (λ e. nat_le e.1 9223372036854775807) xs ≡ b → cond b (Some xs) None ≡ None
    by_test true h = absurd (omega (arith, more, fits_bound xs is h key))
    by_test false h = refl

-- the multiset itself with each count in the bound, or a count that passes it
pub within_cases : (xs : List (Value × ℕ)) → IsMultiset value_cmp xs
    → ((within_counts xs ≡ Some xs) × ((key : Value) → count_of value_cmp xs key ≤ MAX_COUNT)) ⊎ ((within_counts xs ≡ None) × ((key : Value) × (MAX_COUNT < count_of value_cmp xs key)))
within_cases xs is = by_test (list_all (λ e. nat_le e.1 9223372036854775807) xs) refl
  where
    by_test : (b : Bool) → list_all (λ e. nat_le e.1 9223372036854775807) xs ≡ b
        → ((cond b (Some xs) None ≡ Some xs) × ((key : Value) → count_of value_cmp xs key ≤ MAX_COUNT)) ⊎ ((cond b (Some xs) None ≡ None) × ((key : Value) × (MAX_COUNT < count_of value_cmp xs key)))
    by_test true h = inl (refl, fits_bound xs is h)
    by_test false h =
        let found = one_fails (λ e. nat_le e.1 9223372036854775807) (λ e. count_of value_cmp xs e.0 ≡ e.1) xs (entries_count values_total xs is.rising) h in
        inr (refl, (found.0.0, omega (arith, above found.0.1 9223372036854775807 found.1, found.2)))

-- ---- inclusion

at_key : (f : Value → Bool) (key : Value) (xs : List (Value × ℕ)) → list_all (λ e. f e.0) xs ≡ true → HasKey value_cmp xs key → f key ≡ true
at_key f key [] all has = absurd has
at_key f key (x ∷ xs) all (inl is) = ap f (values_apart key x.0 is) ∙ and_left (f x.0) (list_all (λ e. f e.0) xs) all
at_key f key (x ∷ xs) all (inr has) = at_key f key xs (and_right (f x.0) (list_all (λ e. f e.0) xs) all) has

pub test_includes : (whole part : List (Value × ℕ)) → does_include whole part ≡ true → Includes value_cmp whole part
test_includes whole part h key = by_count (count_of value_cmp part key) refl
  where
    by_count : (n : ℕ) → count_of value_cmp part key ≡ n → count_of value_cmp part key ≤ count_of value_cmp whole key
    by_count zero is = omega (arith, is)
    by_count (suc n) is =
        let has = has_entry value_cmp part key (omega (arith, is)) in
        at_most (count_of value_cmp part key) (count_of value_cmp whole key) (at_key (λ k. nat_le (count_of value_cmp part k) (count_of value_cmp whole k)) key part h has)

pub includes_test : (whole part : List (Value × ℕ)) → Includes value_cmp whole part → does_include whole part ≡ true
includes_test whole part is =
    all_pass (λ e. nat_le (count_of value_cmp part e.0) (count_of value_cmp whole e.0)) (λ e. count_of value_cmp part e.0 ≤ count_of value_cmp whole e.0)
    (λ e p. is_at_most (count_of value_cmp part e.0) (count_of value_cmp whole e.0) p) part
    (every_one (λ e. count_of value_cmp part e.0 ≤ count_of value_cmp whole e.0) (λ e. is e.0) part)

-- an answer that is true exactly where the part is included
pub tested_includes : (b : Bool) (whole part : List (Value × ℕ)) → IsTrue b ↔ Includes value_cmp whole part → b ≡ does_include whole part
tested_includes true whole part e = sym (includes_test whole part (e.0 refl))
tested_includes false whole part e = by_test (does_include whole part) refl
  where
    by_test : (b : Bool) → does_include whole part ≡ b → false ≡ b
    by_test true h = e.1 (test_includes whole part h)
    by_test false h = refl

-- the test of equality says that each value has the same count
pub same_counts : (one other : List (Value × ℕ)) → (is_same_bag one other ≡ true) ↔ IsSame value_cmp one other
same_counts one other = (
  λ h key. omega (arith, test_includes one other (and_left (does_include one other) (does_include other one) h) key, test_includes other one (and_right (does_include one other) (does_include other one) h) key),
  λ same. and_both (does_include one other) (does_include other one) (includes_test one other (λ key. omega (arith, same key))) (includes_test other one (λ key. omega (arith, same key))),
)

-- ---- what is left

pub lessened_keys : (P : Value → Type 0) (part whole : List (Value × ℕ)) → Every {X = Value × ℕ} (λ e. P e.0) whole → Every {X = Value × ℕ} (λ e. P e.0) (map (λ e. (e.0, e.1 - count_of value_cmp part e.0)) whole)
lessened_keys P part [] all = tt
lessened_keys P part (x ∷ xs) all = (all.0, lessened_keys P part xs all.1)

lessened_rising : (part whole : List (Value × ℕ)) → IsRising value_cmp whole → IsRising value_cmp (map (λ e. (e.0, e.1 - count_of value_cmp part e.0)) whole)
lessened_rising part [] rising = tt
lessened_rising part (x ∷ xs) rising = (lessened_keys (λ k. value_cmp x.0 k ≡ Less) part xs rising.0, lessened_rising part xs rising.1)

lessened_most : (part whole : List (Value × ℕ)) → Every (λ e. (0 < e.1) × (e.1 ≤ MAX_COUNT)) whole → Every {X = Value × ℕ} (λ e. e.1 ≤ MAX_COUNT) (map (λ e. (e.0, e.1 - count_of value_cmp part e.0)) whole)
lessened_most part [] all = tt
lessened_most part (x ∷ xs) all = (omega (arith, all.0.1), lessened_most part xs all.1)

lessened_counts : (part whole : List (Value × ℕ)) → IsRising value_cmp whole → (key : Value)
    → count_of value_cmp (map (λ e. (e.0, e.1 - count_of value_cmp part e.0)) whole) key ≡ count_of value_cmp whole key - count_of value_cmp part key
lessened_counts part [] rising key = omega arith
lessened_counts part (x ∷ xs) rising key = step (value_cmp key x.0) refl (lessened_counts part xs rising.1 key)
  where
    step : (o : Ordering) → value_cmp key x.0 ≡ o
        → count_of value_cmp (map (λ e. (e.0, e.1 - count_of value_cmp part e.0)) xs) key ≡ count_of value_cmp xs key - count_of value_cmp part key
        → count_of value_cmp (map (λ e. (e.0, e.1 - count_of value_cmp part e.0)) (x ∷ xs)) key ≡ count_of value_cmp (x ∷ xs) key - count_of value_cmp part key
    step Less is later = omega (arith, later, count_in_as value_cmp x key Less is, count_in_as value_cmp (x.0, x.1 - count_of value_cmp part x.0) key Less is)
    step Greater is later = omega (arith, later, count_in_as value_cmp x key Greater is, count_in_as value_cmp (x.0, x.1 - count_of value_cmp part x.0) key Greater is)
    step Equal is later =
        let none = count_of_above value_cmp xs key (above_all_tied values_total x xs key is rising.0) in
        let same = ap (count_of value_cmp part) (values_apart key x.0 is) in
        omega (arith, later, none, same, count_in_as value_cmp x key Equal is, count_in_as value_cmp (x.0, x.1 - count_of value_cmp part x.0) key Equal is)

-- a multiset that with the part gives the whole
pub record IsLeft (whole part rest : List (Value × ℕ)) : Type 0 where
  pub bag : IsBag value_cmp rest
  pub counts : (key : Value) → count_of value_cmp rest key + count_of value_cmp part key ≡ count_of value_cmp whole key

pub left_once : (whole part one other : List (Value × ℕ)) → IsLeft whole part one → IsLeft whole part other → one ≡ other
left_once whole part one other p q = same_entries values_total values_apart one other (bag_multiset one p.bag) (bag_multiset other q.bag) (λ key. omega (arith, p.counts key, q.counts key))

pub left_included : (whole part rest : List (Value × ℕ)) → IsLeft whole part rest → Includes value_cmp whole part
left_included whole part rest is key = omega (arith, is.counts key)

pub left_is : (whole part : List (Value × ℕ)) → IsBag value_cmp whole → Includes value_cmp whole part → IsLeft whole part (without_part whole part)
left_is whole part is includes = record {
  bag = bag-counted value_cmp (map (λ e. (e.0, e.1 - count_of value_cmp part e.0)) whole) (lessened_rising part whole is.rising) (lessened_most part whole is.counted);
  counts = λ key. omega (arith, includes key, count_of-counted value_cmp (map (λ e. (e.0, e.1 - count_of value_cmp part e.0)) whole) key, lessened_counts part whole is.rising key);
}

-- the answer is what is left, and there is none only where the part is not included
pub record Finds (whole part : List (Value × ℕ)) (answer : Option (List (Value × ℕ))) : Type 0 where
  pub some : (rest : List (Value × ℕ)) → answer ≡ Some rest → IsLeft whole part rest
  pub none : answer ≡ None → Includes value_cmp whole part → ⊥

pub found_once : (whole part : List (Value × ℕ)) (one other : Option (List (Value × ℕ))) → Finds whole part one → Finds whole part other → one ≡ other
found_once whole part (Some one) (Some other) f g = ap (λ r. Some r) (left_once whole part one other (f.some one refl) (g.some other refl))
found_once whole part (Some one) None f g = absurd (g.none refl (left_included whole part one (f.some one refl)))
found_once whole part None (Some other) f g = absurd (f.none refl (left_included whole part other (g.some other refl)))
found_once whole part None None f g = refl

pub difference_finds : (whole part : List (Value × ℕ)) → IsBag value_cmp whole → Finds whole part (bag_difference whole part)
difference_finds whole part is = by_test (does_include whole part) refl
  where
    by_test : (b : Bool) → does_include whole part ≡ b → Finds whole part (cond b (Some (without_part whole part)) None)
    by_test true h = record {
      some = λ rest e. let same : without_part whole part ≡ rest = cc in subst (IsLeft whole part) same (left_is whole part is (test_includes whole part h));
      none = λ e includes. absurd cc;
    }
    by_test false h = record {
      some = λ rest e. absurd cc;
      none = λ e includes. false≢true (sym h ∙ includes_test whole part includes);
    }

pub left_found : (whole part rest : List (Value × ℕ)) → IsBag value_cmp whole → IsLeft whole part rest → bag_difference whole part ≡ Some rest
left_found whole part rest is left =
    found_once whole part (bag_difference whole part) (Some rest) (difference_finds whole part is)
    (record { some = λ r e. let same : rest ≡ r = cc in subst (IsLeft whole part) same left; none = λ e l. absurd cc })

pub not_included : (whole part : List (Value × ℕ)) → (Includes value_cmp whole part → ⊥) → bag_difference whole part ≡ None
not_included whole part not = by_test (does_include whole part) refl
  where
    by_test : (b : Bool) → does_include whole part ≡ b → cond b (Some (without_part whole part)) None ≡ None
    by_test true h = absurd (not (test_includes whole part h))
    by_test false h = refl

-- ---- equality

pub same_test : (one other : List (Value × ℕ)) → IsMultiset value_cmp one → IsMultiset value_cmp other → is_same_bag one other ≡ true → one ≡ other
same_test one other p q h =
    same_entries values_total values_apart one other p q
    (λ key. omega (arith, test_includes one other (and_left (does_include one other) (does_include other one) h) key, test_includes other one (and_right (does_include one other) (does_include other one) h) key))

pub test_same : (one other : List (Value × ℕ)) → one ≡ other → is_same_bag one other ≡ true
test_same one other e =
    subst (λ ys. is_same_bag one ys ≡ true) e (and_both (does_include one one) (does_include one one) (includes_test one one (λ key. omega arith)) (includes_test one one (λ key. omega arith)))

-- an answer that is true exactly where both are the same
pub same_answer : (b : Bool) (one other : List (Value × ℕ)) → IsBag value_cmp one → IsBag value_cmp other → IsTrue b ↔ (one ≡ other) → b ≡ is_same_bag one other
same_answer true one other p q e = sym (test_same one other (e.0 refl))
same_answer false one other p q e = by_test (is_same_bag one other) refl
  where
    by_test : (b : Bool) → is_same_bag one other ≡ b → false ≡ b
    by_test true h = e.1 (same_test one other (bag_multiset one p) (bag_multiset other q) h)
    by_test false h = refl

-- values are equal where the test says so
pub same_value : (one other : Value) → eq_by_cmp value_cmp one other ≡ true → one ≡ other
same_value one other h = by_order (value_cmp one other) refl h
  where
    by_order : (o : Ordering) → value_cmp one other ≡ o → is_eq o ≡ true → one ≡ other
    by_order Less is e = absurd (false≢true e)
    by_order Equal is e = values_apart one other is
    by_order Greater is e = absurd (false≢true e)

pub value_same : (one other : Value) → one ≡ other → eq_by_cmp value_cmp one other ≡ true
value_same one other e = ap is_eq (values_tie one other e)
