-- What an operator gives is of the sort that it gives: one case for each row of the table.
use Rattle.std.proofs.Common.{◌≡◌, ℕ, ◌<◌, ◌≤◌, ℤ, pos, ◌+ℤ◌, ◌-ℤ◌, ◌*ℤ◌, int_div, int_rem, int_le, nat_le, ◌==◌, Bool, true, false, ◌&&◌, cond, List, [], ◌∷◌, length, map, drop, nat_lt, not, ◌||◌, Option, Some, None, refl, sym, ap, ◌∙◌, subst, arith}
use Rattle.std.proofs.lemmas.Bool.{false≢true}
use Rattle.std.proofs.lemmas.Bool.Decides.{nat_tests}
use Rattle.std.proofs.lemmas.List.FromFn.{length-map-range_with_len}
use Rattle.std.specs.List.{AllZip, Contains, list_all, list_any}
use Rattle.std.specs.Option.{IfSome}
use Rattle.std.specs.Ordering.{int_cmp, int_eq, is_ge, is_gt, is_le, is_lt}
use Rattle.pn_facts.proofs.Contained.{contains_first, contains_next}
use Rattle.pn_facts.proofs.Truths.{and_left, and_right, and_both}
use Rattle.pn_text.specs.Characters.{characters_of, is_text}
use Rattle.pn_bag.specs.Copies.{total_of}
use Rattle.pn_bag.specs.Counts.{Every, count_of}
use Rattle.pn_bag.specs.declared.TheConstants.{MAX_COUNT}
use Rattle.pn_operators.specs.declared.op.Op.{Op}
use Rattle.pn_operators.specs.declared.op.Op.TheVariants as op
use Rattle.pn_carriers.specs.Carriers.{carrier, width_of}
use Rattle.pn_carriers.specs.Members.{IsMember, is_constant, is_member, is_tuple_of, pass_each, least_number, greatest_number}
use Rattle.pn_carriers.specs.Sizes.{size_of}
use Rattle.pn_carriers.proofs.LayerLemmas.{carrier-enumeration, finite-enumeration, member-enumeration, member-product}
use Rattle.pn_carriers.proofs.ValueLemmas.{out-const, out-tuple}
use Rattle.pn_names.specs.Names.{widths_of}
use Rattle.pn_syntax.specs.declared.declaration.Declaration.{Declaration}
use Rattle.pn_values.specs.Order.{value_cmp}
use Rattle.pn_values.specs.declared.sort.Sort.{Sort}
use Rattle.pn_values.specs.declared.sort.Sort.TheOpen as sort_layer
use Rattle.pn_values.specs.declared.sort.Sort.TheVariants as sorts
use Rattle.pn_values.specs.declared.sort.Sort.TheVariants.{rolls-Text, rolls-List}
use Rattle.pn_values.specs.declared.sort.Sort.TheViews.{out-Sort, roll-Sort, roll-out-Sort}
use Rattle.pn_values.specs.declared.value.Value.{Value}
use Rattle.pn_values.specs.declared.value.Value.TheVariants as values
use Rattle.pn_values.specs.declared.value.Value.TheViews.{out-Value}
use Rattle.pn_operations.specs.Multisets.{bag_multiple, bag_of_value, bag_sum, bag_without, does_include, value_count}
use Rattle.pn_operations.specs.Lists.{list_concatenation, list_member}
use Rattle.pn_operations.specs.Texts.{text_cmp, text_concatenation}
use Rattle.pn_operations.specs.Numbers.{in_range}
use Rattle.pn_operations.specs.Outcomes as read
use Rattle.pn_operations.specs.Outcomes.{bag_in, bag_where, is_given, items_in, list_where, number_in, number_where, place_in, second_of, text_in, text_where, truth, truth_in, value_in, value_where}
use Rattle.pn_operations.specs.Rows.{are_equal, next_place, previous_place, truth_row, value_given}
use Rattle.pn_operations.specs.declared.outcome.Outcome.{Outcome}
use Rattle.pn_operations.specs.declared.outcome.Outcome.TheVariants as outcomes
use Rattle.pn_operations.proofs.CountLemmas.{at_most as at_most_is, bag_bound}
use Rattle.pn_operations.proofs.KeepLemmas.{IsBagOf, none_in_it, value_of, sum_of, rest_of, multiple_of, joined_text, joined_list, member_passes, ranged, next_within, previous_within}
use Rattle.pn_partitions.proofs.BaseLemmas.{enumeration_is}
use Rattle.pn_sorts.proofs.MemberLemmas.{member_text}
use Rattle.pn_terms.proofs.SortLemmas.{same_basis}
use Rattle.pn_terms.specs.Rows.{AreAlike, Fits, HasCountIn, Suit, basis_of, first_of, given_by, is_counted, is_indexed, is_round, is_round_layer, is_scaled, item_of, last_of, takes}
use Rattle.pn_terms.specs.declared.term_sort.TermSort.{TermSort}
use Rattle.pn_terms.specs.declared.term_sort.TermSort.TheVariants as terms
use Rattle.pn_eval.specs.Outcomes.{IsOutcomeOf}
use Rattle.pn_eval.specs.Values.{IsRound, IsRoundFor}
use Rattle.pn_eval.proofs.MemberLemmas.{dot_member, truth_member, number_member, member_is_text, member_is_list, list_member_is, place_below, text_good, items_pass}

and_first : (a b : Bool) → (a && b) ≡ true → (a && true) ≡ true
and_first true b h = refl
and_first false b h = h

and_alone : (a : Bool) → a ≡ true → (a && true) ≡ true
and_alone true h = refl
and_alone false h = h

module _ (items : List Declaration) where
  -- ---- what is given

  abbrev Is : TermSort → Outcome → Type 0
  Is = IsOutcomeOf items

  abbrev IsOf : Sort → Value → Type 0
  IsOf s v = IsMember (widths_of items) v s

  truth_is : (b : Bool) → Is (terms.Basis sorts.Bool) (truth b)
  truth_is b = truth_member (widths_of items) b

  number_is : (number : Option ℤ) → IfSome number (λ n. (int_le least_number n && int_le n greatest_number) ≡ true) → Is (terms.Basis sorts.Integer) (number_where number)
  number_is None h = tt
  number_is (Some n) h = number_member (widths_of items) n h

  range_is : (number : ℤ) → Is (terms.Basis sorts.Integer) (number_where (in_range number))
  range_is number = number_is (in_range number) (ranged number)

  range_is_unless : (b : Bool) (number : ℤ) → Is (terms.Basis sorts.Integer) (number_where (cond b None (in_range number)))
  range_is_unless true number = tt
  range_is_unless false number = range_is number

  bag_is : (s : Sort) (bag : Option (List (Value × ℕ))) → IfSome bag (IsBagOf (IsOf s)) → Is (terms.Bag s) (bag_where bag)
  bag_is s None h = tt
  bag_is s (Some bag) h = h

  text_is : (text : Option (List ℕ)) → IfSome text (λ t. is_text t ≡ true) → Is (terms.Basis sorts.Text) (text_where text)
  text_is None h = tt
  text_is (Some t) h = member_text (widths_of items) t ∙ h

  list_is : (item : Sort) (list : Option (List Value)) → IfSome list (λ vs. list_all (is_member (widths_of items) item) vs ≡ true) → Is (terms.Basis (sorts.List item)) (list_where list)
  list_is item None h = tt
  list_is item (Some vs) h = list_member_is (widths_of items) item vs h

  item_is : (s : Sort) (value : Option Value) → IfSome value (λ v. is_member (widths_of items) s v ≡ true) → Is (terms.Basis s) (value_where value)
  item_is s None h = tt
  item_is s (Some v) h = h

  -- ---- what was given

  value_of_basis : (s : Sort) (o : Outcome) → Is (terms.Basis s) o → is_given o ≡ true → IsOf s (value_in o)
  value_of_basis s (outcomes.Value v) is h = is
  value_of_basis s (outcomes.Bag bag) is h = absurd is
  value_of_basis s outcomes.NoValue is h = absurd (false≢true h)

  bag_of_bags : (s : Sort) (o : Outcome) → Is (terms.Bag s) o → IsBagOf (IsOf s) (bag_in o)
  bag_of_bags s (outcomes.Value v) is = absurd is
  bag_of_bags s (outcomes.Bag bag) is = is
  bag_of_bags s outcomes.NoValue is = none_in_it (IsOf s)

  -- ---- how many arguments there are

  abbrev Zip : List TermSort → List Outcome → Type 0
  Zip = AllZip Is

  one : (P : List TermSort → List Outcome → Type 0) → ((t : TermSort) (o : Outcome) → Is t o → is_given o ≡ true → P (t ∷ []) (o ∷ []))
      → (ts : List TermSort) (os : List Outcome) → (nat_le 1 (length ts) && nat_le (length ts) 1) ≡ true → Zip ts os → list_all is_given os ≡ true → P ts os
  one P f [] os n z g = absurd (false≢true n)
  one P f (t ∷ []) [] n z g = absurd z
  one P f (t ∷ []) (o ∷ []) n z g = f t o z.0 (and_left (is_given o) true g)
  one P f (t ∷ []) (o ∷ p ∷ os) n z g = absurd z.1
  one P f (t ∷ u ∷ ts) os n z g = absurd (omega (arith, at_most_is (length (t ∷ u ∷ ts)) 1 (and_right (nat_le 1 (length (t ∷ u ∷ ts))) (nat_le (length (t ∷ u ∷ ts)) 1) n)))

  two : (P : List TermSort → List Outcome → Type 0)
      → ((t u : TermSort) (o p : Outcome) → Is t o → Is u p → is_given o ≡ true → is_given p ≡ true → P (t ∷ u ∷ []) (o ∷ p ∷ []))
      → (ts : List TermSort) (os : List Outcome) → (nat_le 2 (length ts) && nat_le (length ts) 2) ≡ true → Zip ts os → list_all is_given os ≡ true → P ts os
  two P f [] os n z g = absurd (false≢true n)
  two P f (t ∷ []) os n z g = absurd (false≢true n)
  two P f (t ∷ u ∷ []) [] n z g = absurd z
  two P f (t ∷ u ∷ []) (o ∷ []) n z g = absurd z.1
  two P f (t ∷ u ∷ []) (o ∷ p ∷ []) n z g = f t u o p z.0 z.1.0 (and_left (is_given o) (is_given p && true) g) (and_left (is_given p) true (and_right (is_given o) (is_given p && true) g))
  two P f (t ∷ u ∷ []) (o ∷ p ∷ q ∷ os) n z g = absurd z.1.1
  two P f (t ∷ u ∷ v ∷ ts) os n z g = absurd (omega (arith, at_most_is (length (t ∷ u ∷ v ∷ ts)) 2 (and_right (nat_le 2 (length (t ∷ u ∷ v ∷ ts))) (nat_le (length (t ∷ u ∷ v ∷ ts)) 2) n)))

  -- ---- rounds

  enumeration_at : (s : Sort) (x : sort_layer.Sort-F Sort) → out-Sort s ≡ x → is_round_layer items x ≡ true → (n : ℕ) × (s ≡ sorts.Enumeration n)
  enumeration_at s sort_layer.Dot e h = absurd (false≢true h)
  enumeration_at s sort_layer.Bool e h = absurd (false≢true h)
  enumeration_at s (sort_layer.Enumeration n) e h = (n, enumeration_is s n e)
  enumeration_at s (sort_layer.Partition n) e h = absurd (false≢true h)
  enumeration_at s (sort_layer.Range start end) e h = absurd (false≢true h)
  enumeration_at s (sort_layer.Product parts) e h = absurd (false≢true h)
  enumeration_at s sort_layer.Integer e h = absurd (false≢true h)
  enumeration_at s sort_layer.Natural e h = absurd (false≢true h)
  enumeration_at s sort_layer.Positive e h = absurd (false≢true h)
  enumeration_at s sort_layer.Text e h = absurd (false≢true h)
  enumeration_at s (sort_layer.List item) e h = absurd (false≢true h)

  round_of : (s : Sort) → is_round items s ≡ true → (n : ℕ) × (s ≡ sorts.Enumeration n)
  round_of s h = enumeration_at s (out-Sort s) refl h

  round_is : (n round : ℕ) → size_of (widths_of items) (sorts.Enumeration n) ≡ Some round → round ≡ width_of (widths_of items) n
  round_is n round h =
      let whole : size_of (widths_of items) (sorts.Enumeration n) ≡ Some (width_of (widths_of items) n) =
      ap (λ b. cond b (Some (length (carrier (widths_of items) (sorts.Enumeration n)))) None) (finite-enumeration n)
      ∙ ap (λ vs. Some (length vs)) (carrier-enumeration (widths_of items) n)
      ∙ ap (λ k. Some k) (length-map-range_with_len values.Const 0 (width_of (widths_of items) n)) in
      let same : Some round ≡ Some (width_of (widths_of items) n) = sym h ∙ whole in
      cc

  -- a constant below the number of constants is one of them
  constant_is : (n c : ℕ) → c < width_of (widths_of items) n → Is (terms.Basis (sorts.Enumeration n)) (outcomes.Value (values.Const c))
  constant_is n c h =
      member-enumeration (widths_of items) n (values.Const c) ∙ ap (is_constant (width_of (widths_of items) n)) (out-const c) ∙ below
    where
      below : nat_lt c (width_of (widths_of items) n) ≡ true
      below = grind (arith, nat_tests)

  abbrev GoesOn : (ℕ → ℕ → ℕ) → Type 0
  GoesOn step = (round place : ℕ) → place < round → step round place < round

  turned : (step : ℕ → ℕ → ℕ) → GoesOn step → (round : ℕ) (t : TermSort) (o : Outcome) → Suit items op.Successor (t ∷ []) → Is t o → is_given o ≡ true → IsRound items t round
      → Is t (outcomes.Value (values.Const (step round (place_in o))))
  turned step goes round (terms.Bag s) o h is g r = absurd (false≢true h)
  turned step goes round (terms.Basis s) o h is g r = at_enumeration (round_of s (and_left (is_round items s) true h))
    where
      at_enumeration : (n : ℕ) × (s ≡ sorts.Enumeration n) → Is (terms.Basis s) (outcomes.Value (values.Const (step round (place_in o))))
      at_enumeration found =
          let n = found.0 in
          let here : r.0 ≡ sorts.Enumeration n = same_basis r.0 (sorts.Enumeration n) (sym r.1 ∙ ap (λ x. terms.Basis x) found.1) in
          let width : round ≡ width_of (widths_of items) n = round_is n round (ap (size_of (widths_of items)) (sym here) ∙ r.2) in
          let member : is_member (widths_of items) (sorts.Enumeration n) (value_in o) ≡ true = subst (λ x. is_member (widths_of items) x (value_in o) ≡ true) found.1 (value_of_basis s o is g) in
          let below : place_in o < width_of (widths_of items) n = place_below (width_of (widths_of items) n) (out-Value (value_in o)) (sym (member-enumeration (widths_of items) n (value_in o)) ∙ member) in
          let next : step round (place_in o) < width_of (widths_of items) n = subst (λ w. step round (place_in o) < w) width (goes round (place_in o) (subst (λ w. place_in o < w) (sym width) below)) in
          subst (λ x. Is (terms.Basis x) (outcomes.Value (values.Const (step round (place_in o))))) (sym found.1) (constant_is n (step round (place_in o)) next)

  -- ---- tuples

  parts_pass : (ts : List TermSort) (os : List Outcome) → Suit items op.Tuple ts → Zip ts os → list_all is_given os ≡ true
      → pass_each (map (is_member (widths_of items)) (map basis_of ts)) (map value_in os) ≡ true
  parts_pass [] [] h z g = refl
  parts_pass [] (o ∷ os) h z g = absurd z
  parts_pass (t ∷ ts) [] h z g = absurd z
  parts_pass (terms.Bag s ∷ ts) (o ∷ os) h z g = absurd (false≢true h)
  parts_pass (terms.Basis s ∷ ts) (o ∷ os) h z g =
      and_both (is_member (widths_of items) s (value_in o)) (pass_each (map (is_member (widths_of items)) (map basis_of ts)) (map value_in os))
      (value_of_basis s o z.0 (and_left (is_given o) (list_all is_given os) g))
      (parts_pass ts os h z.1 (and_right (is_given o) (list_all is_given os) g))

  tuple_is : (ts : List TermSort) (os : List Outcome) → Suit items op.Tuple ts → Zip ts os → list_all is_given os ≡ true
      → Is (terms.Basis (sorts.Product (map basis_of ts))) (outcomes.Value (values.Tuple (map value_in os)))
  tuple_is ts os h z g =
      member-product (widths_of items) (map basis_of ts) (values.Tuple (map value_in os))
      ∙ ap (is_tuple_of (map (is_member (widths_of items)) (map basis_of ts))) (out-tuple (map value_in os))
      ∙ parts_pass ts os h z g

  -- ---- what is all of one sort

  alike_rest : (t : TermSort) (ts : List TermSort) → AreAlike (t ∷ ts) → (u : TermSort) → Contains ts u → u ≡ t
  alike_rest t ts h u c = h u t (contains_next t ts u c) (contains_first t ts)

  all_values : (s : Sort) (ts : List TermSort) (os : List Outcome) → ((u : TermSort) → Contains ts u → u ≡ terms.Basis s) → Zip ts os → list_all is_given os ≡ true
      → list_all (is_member (widths_of items) s) (map value_in os) ≡ true
  all_values s [] [] same z g = refl
  all_values s [] (o ∷ os) same z g = absurd z
  all_values s (t ∷ ts) [] same z g = absurd z
  all_values s (t ∷ ts) (o ∷ os) same z g =
      and_both (is_member (widths_of items) s (value_in o)) (list_all (is_member (widths_of items) s) (map value_in os))
      (value_of_basis s o (subst (λ u. Is u o) (same t (contains_first t ts)) z.0) (and_left (is_given o) (list_all is_given os) g))
      (all_values s ts os (λ u c. same u (contains_next t ts u c)) z.1 (and_right (is_given o) (list_all is_given os) g))

  all_bags : (s : Sort) (ts : List TermSort) (os : List Outcome) → ((u : TermSort) → Contains ts u → u ≡ terms.Bag s) → Zip ts os → Every (IsBagOf (IsOf s)) (map bag_in os)
  all_bags s [] [] same z = tt
  all_bags s [] (o ∷ os) same z = absurd z
  all_bags s (t ∷ ts) [] same z = absurd z
  all_bags s (t ∷ ts) (o ∷ os) same z = (bag_of_bags s o (subst (λ u. Is u o) (same t (contains_first t ts)) z.0), all_bags s ts os (λ u c. same u (contains_next t ts u c)) z.1)

  list_made : (ts : List TermSort) (os : List Outcome) → (nat_le 1 (length ts) && true) ≡ true → Suit items op.Tuple ts → AreAlike ts → Zip ts os → list_all is_given os ≡ true
      → Is (terms.Basis (sorts.List (basis_of (first_of ts)))) (outcomes.Value (values.List (map value_in os)))
  list_made [] os n h same z g = absurd (false≢true n)
  list_made (terms.Bag s ∷ ts) os n h same z g = absurd (false≢true h)
  list_made (terms.Basis s ∷ ts) os n h same z g =
      list_member_is (widths_of items) s (map value_in os) (all_values s (terms.Basis s ∷ ts) os (λ u c. same u (terms.Basis s) c (contains_first (terms.Basis s) ts)) z g)

  added_up : (ts : List TermSort) (os : List Outcome) → (nat_le 1 (length ts) && true) ≡ true → Suit items op.Cardinality ts → AreAlike ts → Zip ts os
      → Is (first_of ts) (bag_where (bag_sum (map bag_in os)))
  added_up [] os n h same z = absurd (false≢true n)
  added_up (terms.Basis s ∷ ts) os n h same z = absurd (false≢true h)
  added_up (terms.Bag s ∷ ts) os n h same z =
      bag_is s (bag_sum (map bag_in os)) (sum_of (IsOf s) (map bag_in os) (all_bags s (terms.Bag s ∷ ts) os (λ u c. same u (terms.Bag s) c (contains_first (terms.Bag s) ts)) z))

  taken_away : (ts : List TermSort) (os : List Outcome) → (nat_le 2 (length ts) && true) ≡ true → Suit items op.Cardinality ts → Zip ts os
      → Is (first_of ts) (bag_where (bag_without (bag_in (read.first_of os)) (map bag_in (drop 1 os))))
  taken_away [] os n h z = absurd (false≢true n)
  taken_away (terms.Basis s ∷ ts) os n h z = absurd (false≢true h)
  taken_away (terms.Bag s ∷ ts) [] n h z = absurd z
  taken_away (terms.Bag s ∷ ts) (o ∷ os) n h z = bag_is s (bag_without (bag_in o) (map bag_in os)) (rest_of (IsOf s) (bag_in o) (map bag_in os) (bag_of_bags s o z.0))

  -- ---- multisets and their counts

  often : (number : ℤ) (t : TermSort) (o : Outcome) → Suit items op.Tuple (t ∷ []) → Is t o → is_given o ≡ true → Is (terms.Bag (basis_of t)) (bag_where (bag_of_value number (value_in o)))
  often number (terms.Bag s) o h is g = absurd (false≢true h)
  often number (terms.Basis s) o h is g = bag_is s (bag_of_value number (value_in o)) (value_of (IsOf s) number (value_in o) (value_of_basis s o is g))

  number_of_is : (ts : List TermSort) (os : List Outcome) → (nat_le 1 (length ts) && nat_le (length ts) 2) ≡ true → is_counted items ts ≡ true → Zip ts os → list_all is_given os ≡ true
      → Is (terms.Bag (basis_of (last_of ts))) (bag_where (cond (length os == 1) (bag_of_value (pos 1) (value_in (read.first_of os))) (bag_of_value (number_in (read.first_of os)) (value_in (second_of os)))))
  number_of_is [] os n h z g = absurd (false≢true n)
  number_of_is (t ∷ []) [] n h z g = absurd z
  number_of_is (t ∷ []) (o ∷ []) n h z g = often (pos 1) t o h z.0 (and_left (is_given o) true g)
  number_of_is (t ∷ []) (o ∷ p ∷ os) n h z g = absurd z.1
  number_of_is (t ∷ u ∷ []) [] n h z g = absurd z
  number_of_is (t ∷ u ∷ []) (o ∷ []) n h z g = absurd z.1
  number_of_is (t ∷ u ∷ []) (o ∷ p ∷ []) n h z g =
      often (number_in o) u p (and_first _ _ h) z.1.0 (and_left (is_given p) true (and_right (is_given o) (is_given p && true) g))
  number_of_is (t ∷ u ∷ []) (o ∷ p ∷ q ∷ os) n h z g = absurd z.1.1
  number_of_is (t ∷ u ∷ v ∷ ts) os n h z g = absurd (omega (arith, at_most_is (length (t ∷ u ∷ v ∷ ts)) 2 (and_right (nat_le 1 (length (t ∷ u ∷ v ∷ ts))) (nat_le (length (t ∷ u ∷ v ∷ ts)) 2) n)))

  multiplied : (number : ℤ) (t : TermSort) (o : Outcome) → Suit items op.Cardinality (t ∷ []) → Is t o → Is t (bag_where (bag_multiple number (bag_in o)))
  multiplied number (terms.Basis s) o h is = absurd (false≢true h)
  multiplied number (terms.Bag s) o h is = bag_is s (bag_multiple number (bag_in o)) (multiple_of (IsOf s) number (bag_in o) (bag_of_bags s o is))

  count_is : (s : Sort) (o : Outcome) (value : Value) → Is (terms.Bag s) o → Is (terms.Basis sorts.Integer) (outcomes.Value (values.Int (value_count (bag_in o) value)))
  count_is s o value is = number_member (widths_of items) (value_count (bag_in o) value) (count_in_range (count_of value_cmp (bag_in o) value) (bag_bound (bag_in o) (bag_of_bags s o is).0 value))
    where
      count_in_range : (n : ℕ) → n ≤ MAX_COUNT → (int_le least_number (pos n) && int_le (pos n) greatest_number) ≡ true
      count_in_range n h = grind (arith, nat_tests)

  -- ---- texts and lists

  text_at : (s : Sort) (x : sort_layer.Sort-F Sort) → out-Sort s ≡ x → Suit items op.StringLength (terms.Basis s ∷ []) → s ≡ sorts.Text
  text_at s sort_layer.Text e h = sym (roll-out-Sort s) ∙ ap roll-Sort e ∙ rolls-Text
  text_at s sort_layer.Dot e h = absurd (false≢true (rw e at h))
  text_at s sort_layer.Bool e h = absurd (false≢true (rw e at h))
  text_at s (sort_layer.Enumeration n) e h = absurd (false≢true (rw e at h))
  text_at s (sort_layer.Partition n) e h = absurd (false≢true (rw e at h))
  text_at s (sort_layer.Range start end) e h = absurd (false≢true (rw e at h))
  text_at s (sort_layer.Product parts) e h = absurd (false≢true (rw e at h))
  text_at s sort_layer.Integer e h = absurd (false≢true (rw e at h))
  text_at s sort_layer.Natural e h = absurd (false≢true (rw e at h))
  text_at s sort_layer.Positive e h = absurd (false≢true (rw e at h))
  text_at s (sort_layer.List item) e h = absurd (false≢true (rw e at h))

  text_given : (t : TermSort) (o : Outcome) → Suit items op.StringLength (t ∷ []) → Is t o → is_given o ≡ true → is_text (text_in o) ≡ true
  text_given (terms.Bag s) o h is g = absurd (false≢true h)
  text_given (terms.Basis s) o h is g =
      text_good (out-Value (value_in o)) (sym (member_is_text (widths_of items) (value_in o)) ∙ subst (λ x. is_member (widths_of items) x (value_in o) ≡ true) (text_at s (out-Sort s) refl h) (value_of_basis s o is g))

  list_at : (s : Sort) (x : sort_layer.Sort-F Sort) → out-Sort s ≡ x → Suit items op.ListLength (terms.Basis s ∷ []) → (item : Sort) × (s ≡ sorts.List item) × (item_of s ≡ item)
  list_at s (sort_layer.List item) e h = (item, sym (roll-out-Sort s) ∙ ap roll-Sort e ∙ rolls-List item, rw e refl)
  list_at s sort_layer.Dot e h = absurd (false≢true (rw e at h))
  list_at s sort_layer.Bool e h = absurd (false≢true (rw e at h))
  list_at s (sort_layer.Enumeration n) e h = absurd (false≢true (rw e at h))
  list_at s (sort_layer.Partition n) e h = absurd (false≢true (rw e at h))
  list_at s (sort_layer.Range start end) e h = absurd (false≢true (rw e at h))
  list_at s (sort_layer.Product parts) e h = absurd (false≢true (rw e at h))
  list_at s sort_layer.Integer e h = absurd (false≢true (rw e at h))
  list_at s sort_layer.Natural e h = absurd (false≢true (rw e at h))
  list_at s sort_layer.Positive e h = absurd (false≢true (rw e at h))
  list_at s sort_layer.Text e h = absurd (false≢true (rw e at h))

  items_given : (item : Sort) (o : Outcome) → Is (terms.Basis (sorts.List item)) o → is_given o ≡ true → list_all (is_member (widths_of items) item) (items_in o) ≡ true
  items_given item o is g =
      items_pass (is_member (widths_of items) item) (out-Value (value_in o)) (sym (member_is_list (widths_of items) item (value_in o)) ∙ value_of_basis (sorts.List item) o is g)

  texts_joined : (ts : List TermSort) (os : List Outcome) → (nat_le 2 (length ts) && nat_le (length ts) 2) ≡ true → Suit items op.StringConcatenation ts → Zip ts os → list_all is_given os ≡ true
      → Is (terms.Basis sorts.Text) (text_where (text_concatenation (text_in (read.first_of os)) (text_in (second_of os))))
  texts_joined ts os n h z g =
      two (λ ts os. Suit items op.StringConcatenation ts → Is (terms.Basis sorts.Text) (text_where (text_concatenation (text_in (read.first_of os)) (text_in (second_of os)))))
      (λ t u o p is too given also all.
      text_is (text_concatenation (text_in o) (text_in p)) (joined_text (text_in o) (text_in p)
      (text_given t o (and_first _ _ all) is given)
      (text_given u p (and_right _ _ all) too also)))
      ts os n z g h

  both_lists : (t : TermSort) (o p : Outcome) → Suit items op.ListLength (t ∷ []) → Is t o → Is t p → is_given o ≡ true → is_given p ≡ true → Is t (list_where (list_concatenation (items_in o) (items_in p)))
  both_lists (terms.Bag s) o p h is too given also = absurd (false≢true h)
  both_lists (terms.Basis s) o p h is too given also =
      let found = list_at s (out-Sort s) refl h in
      let item = found.0 in
      let at : (q : Outcome) → Is (terms.Basis s) q → Is (terms.Basis (sorts.List item)) q = λ q is. subst (λ x. Is (terms.Basis x) q) found.1 is in
      subst (λ x. Is (terms.Basis x) (list_where (list_concatenation (items_in o) (items_in p)))) (sym found.1)
      (list_is item (list_concatenation (items_in o) (items_in p)) (joined_list (is_member (widths_of items) item) (items_in o) (items_in p) (items_given item o (at o is) given) (items_given item p (at p too) also)))

  lists_joined : (ts : List TermSort) (os : List Outcome) → (nat_le 2 (length ts) && nat_le (length ts) 2) ≡ true → Suit items op.ListLength ts → AreAlike ts → Zip ts os → list_all is_given os ≡ true
      → Is (first_of ts) (list_where (list_concatenation (items_in (read.first_of os)) (items_in (second_of os))))
  lists_joined ts os n h same z g =
      two (λ ts os. Suit items op.ListLength ts → AreAlike ts → Is (first_of ts) (list_where (list_concatenation (items_in (read.first_of os)) (items_in (second_of os)))))
      (λ t u o p is too given also all alike.
      both_lists t o p (and_first _ _ all) is (subst (λ x. Is x p) (alike_rest t (u ∷ []) alike u (contains_first u [])) too) given also)
      ts os n z g h same

  item_given : (t : TermSort) (o : Outcome) (place : ℤ) → Suit items op.ListLength (t ∷ []) → Is t o → is_given o ≡ true → Is (terms.Basis (item_of (basis_of t))) (value_where (list_member (items_in o) place))
  item_given (terms.Bag s) o place h is g = absurd (false≢true h)
  item_given (terms.Basis s) o place h is g =
      let found = list_at s (out-Sort s) refl h in
      let item = found.0 in
      subst (λ x. Is (terms.Basis x) (value_where (list_member (items_in o) place))) (sym found.2)
      (item_is item (list_member (items_in o) place) (member_passes (is_member (widths_of items) item) (items_in o) place (items_given item o (subst (λ x. Is (terms.Basis x) o) found.1 is) g)))

  -- ---- the rows

  abbrev Goes : ℕ → Op → List TermSort → Type 0
  Goes round o ts = (s : TermSort) (rest : List TermSort) → ts ≡ s ∷ rest → IsRoundFor items o s round

  row_is : (round : ℕ) (o : Op) (ts : List TermSort) (os : List Outcome) → takes o (length ts) ≡ true → Suit items o ts → Zip ts os → list_all is_given os ≡ true → Goes round o ts → Is (given_by o ts) (truth_row round o os)
  row_is round op.DotConstant ts os n suit z g goes = dot_member (widths_of items)
  row_is round op.And ts os n suit z g goes = truth_is (list_all truth_in os)
  row_is round op.Or ts os n suit z g goes = truth_is (list_any truth_in os)
  row_is round op.Not ts os n suit z g goes = truth_is (not (truth_in (read.first_of os)))
  row_is round op.Imply ts os n suit z g goes = truth_is (not (truth_in (read.first_of os)) || truth_in (second_of os))
  row_is round op.Equality ts os n suit z g goes = truth_is (are_equal (read.first_of os) (second_of os))
  row_is round op.Inequality ts os n suit z g goes = truth_is (not (are_equal (read.first_of os) (second_of os)))
  row_is round op.Successor ts os n suit z g goes = one (λ ts os. Suit items op.Successor ts → Goes round op.Successor ts → Is (first_of ts) (outcomes.Value (values.Const (next_place round (place_in (read.first_of os))))))
      (λ t o is given all goes. turned next_place next_within round t o all is given (goes t [] refl)) ts os n z g suit goes
  row_is round op.Predecessor ts os n suit z g goes = one (λ ts os. Suit items op.Successor ts → Goes round op.Predecessor ts → Is (first_of ts) (outcomes.Value (values.Const (previous_place round (place_in (read.first_of os))))))
      (λ t o is given all goes. turned previous_place previous_within round t o all is given (goes t [] refl)) ts os n z g suit goes
  row_is round op.LessThan ts os n suit z g goes = truth_is (is_lt (value_cmp (value_in (read.first_of os)) (value_in (second_of os))))
  row_is round op.LessThanOrEqual ts os n suit z g goes = truth_is (is_le (value_cmp (value_in (read.first_of os)) (value_in (second_of os))))
  row_is round op.GreaterThan ts os n suit z g goes = truth_is (is_gt (value_cmp (value_in (read.first_of os)) (value_in (second_of os))))
  row_is round op.GreaterThanOrEqual ts os n suit z g goes = truth_is (is_ge (value_cmp (value_in (read.first_of os)) (value_in (second_of os))))
  row_is round op.Ltp ts os n suit z g goes = truth_is (is_lt (value_cmp (value_in (read.first_of os)) (value_in (second_of os))))
  row_is round op.Gtp ts os n suit z g goes = truth_is (is_gt (value_cmp (value_in (read.first_of os)) (value_in (second_of os))))
  row_is round op.Tuple ts os n suit z g goes = tuple_is ts os suit z g
  row_is round op.NumberOf ts os n suit z g goes = number_of_is ts os n suit z g
  row_is round op.Add ts os n suit z g goes = added_up ts os n suit.0 suit.1 z
  row_is round op.Subtract ts os n suit z g goes = taken_away ts os n suit.0 z
  row_is round op.ScalarProduct ts os n suit z g goes = two (λ ts os. is_scaled items ts ≡ true → Is (last_of ts) (bag_where (bag_multiple (number_in (read.first_of os)) (bag_in (second_of os)))))
      (λ t u o p is too given also all. multiplied (number_in o) u p (and_alone _ (and_right _ _ all)) too) ts os n z g suit
  row_is round op.Addition ts os n suit z g goes = range_is (number_in (read.first_of os) +ℤ number_in (second_of os))
  row_is round op.Subtraction ts os n suit z g goes = range_is (number_in (read.first_of os) -ℤ number_in (second_of os))
  row_is round op.Mult ts os n suit z g goes = range_is (number_in (read.first_of os) *ℤ number_in (second_of os))
  row_is round op.Div ts os n suit z g goes = range_is_unless (int_eq (number_in (second_of os)) (pos 0)) (int_div (number_in (read.first_of os)) (number_in (second_of os)))
  row_is round op.Mod ts os n suit z g goes = range_is_unless (int_eq (number_in (second_of os)) (pos 0)) (int_rem (number_in (read.first_of os)) (number_in (second_of os)))
  row_is round op.Lt ts os n suit z g goes = truth_is (is_lt (int_cmp (number_in (read.first_of os)) (number_in (second_of os))))
  row_is round op.Leq ts os n suit z g goes = truth_is (is_le (int_cmp (number_in (read.first_of os)) (number_in (second_of os))))
  row_is round op.Gt ts os n suit z g goes = truth_is (is_gt (int_cmp (number_in (read.first_of os)) (number_in (second_of os))))
  row_is round op.Geq ts os n suit z g goes = truth_is (is_ge (int_cmp (number_in (read.first_of os)) (number_in (second_of os))))
  row_is round op.Cardinality ts os n suit z g goes = range_is (pos (total_of (bag_in (read.first_of os))))
  row_is round op.CardinalityOf ts os n suit z g goes = two (λ ts os. HasCountIn ts → Is (terms.Basis sorts.Integer) (outcomes.Value (values.Int (value_count (bag_in (read.first_of os)) (value_in (second_of os))))))
      (λ t u o p is too given also all. count_is all.0 o (value_in p) (subst (λ x. Is x o) all.1 is)) ts os n z g suit
  row_is round op.Contains ts os n suit z g goes = truth_is (does_include (bag_in (read.first_of os)) (bag_in (second_of os)))
  row_is round op.StringConcatenation ts os n suit z g goes = texts_joined ts os n suit z g
  row_is round op.StringLength ts os n suit z g goes = range_is (pos (length (characters_of (text_in (read.first_of os)))))
  row_is round op.Lts ts os n suit z g goes = truth_is (is_lt (text_cmp (text_in (read.first_of os)) (text_in (second_of os))))
  row_is round op.Leqs ts os n suit z g goes = truth_is (is_le (text_cmp (text_in (read.first_of os)) (text_in (second_of os))))
  row_is round op.Gts ts os n suit z g goes = truth_is (is_gt (text_cmp (text_in (read.first_of os)) (text_in (second_of os))))
  row_is round op.Geqs ts os n suit z g goes = truth_is (is_ge (text_cmp (text_in (read.first_of os)) (text_in (second_of os))))
  row_is round op.MakeList ts os n suit z g goes = list_made ts os n suit.0 suit.1 z g
  row_is round op.ListConcatenation ts os n suit z g goes = lists_joined ts os n suit.0 suit.1 z g
  row_is round op.ListLength ts os n suit z g goes = range_is (pos (length (items_in (read.first_of os))))
  row_is round op.MemberAtIndex ts os n suit z g goes = two (λ ts os. is_indexed items ts ≡ true → Is (terms.Basis (item_of (basis_of (first_of ts)))) (value_where (list_member (items_in (read.first_of os)) (number_in (second_of os)))))
      (λ t u o p is too given also all. item_given t o (number_in p) (and_first _ _ all) is given) ts os n z g suit

-- what an operator gives for outcomes of sorts that fit it is of the sort that it gives
pub rows_keep_sorts : (items : List Declaration) (round : ℕ) (o : Op) (ts : List TermSort) (os : List Outcome) → Fits items o ts → AllZip (IsOutcomeOf items) ts os
    → ((s : TermSort) (rest : List TermSort) → ts ≡ s ∷ rest → IsRoundFor items o s round) → IsOutcomeOf items (given_by o ts) (value_given round o os)
rows_keep_sorts items round o ts os fits zip goes = by_test (list_all is_given os) refl
  where
    by_test : (b : Bool) → list_all is_given os ≡ b → IsOutcomeOf items (given_by o ts) (cond b (truth_row round o os) outcomes.NoValue)
    by_test true h = row_is items round o ts os fits.number fits.suit zip h goes
    by_test false h = tt
