-- The term of a multiset has that multiset.
use Rattle.std.proofs.Common.{◌≡◌, ◌<◌, ◌≤◌, ◌+◌, ◌⊎◌, inl, inr, ℕ, zero, suc, pos, true, int_le, nat_le, cond, List, [], ◌∷◌, length, map, None, Some, option_map, refl, sym, ap, ◌∙◌, subst, arith}
use Rattle.std.specs.List.{Contains, list_all}
use Rattle.std.specs.Ordering.{match_ordering}
use Rattle.std.specs.declared.cmp.Ordering.TheVariants.{Less}
use Rattle.std.proofs.lemmas.Bool.Decides.{nat_tests}
use Rattle.pn_bag.specs.Algebra.{added, inserted}
use Rattle.pn_bag.specs.Bag.{IsBag}
use Rattle.pn_bag.specs.Counts.{Every, IsRising}
use Rattle.pn_bag.specs.declared.TheConstants.{MAX_COUNT}
use Rattle.pn_carriers.proofs.ValueLemmas.{out-int}
use Rattle.pn_carriers.specs.Members.{IsMember, greatest_number, is_between, is_member}
use Rattle.pn_eval.proofs.KinLemmas.{member_of_layer}
use Rattle.pn_eval.proofs.ValueLemmas.{value_with}
use Rattle.pn_eval.specs.Values.{HaveValues}
use Rattle.pn_eval.specs.Values as give
use Rattle.pn_facts.proofs.Contained.{contains_cases, contains_nil}
use Rattle.pn_facts.proofs.Truths.{and_both}
use Rattle.pn_names.specs.Names.{widths_of}
use Rattle.pn_operations.specs.Multisets.{bag_of_value, bag_sum, total_bag, within_counts}
use Rattle.pn_operations.specs.Outcomes.{bag_in, bag_where, is_given, number_of}
use Rattle.pn_operations.specs.Rows.{truth_row}
use Rattle.pn_operations.specs.declared.outcome.Outcome.{Outcome}
use Rattle.pn_operations.specs.declared.outcome.Outcome.TheVariants as outcomes
use Rattle.pn_operators.specs.declared.op.Op.TheVariants as op
use Rattle.pn_syntax.specs.declared.declaration.Declaration.{Declaration}
use Rattle.pn_syntax.specs.declared.term.NumberSort.TheVariants as numbers
use Rattle.pn_syntax.specs.declared.term.Term.{Term}
use Rattle.pn_syntax.specs.declared.term.TermNode.TheOpen as term_layer
use Rattle.pn_syntax.specs.declared.term.TermNode.TheVariants as nodes
use Rattle.pn_terms.proofs.TermLemmas.{out_apply}
use Rattle.pn_terms.specs.Rows.{Suit}
use Rattle.pn_terms.specs.Sorts.{HaveSorts}
use Rattle.pn_terms.specs.Sorts as have
use Rattle.pn_terms.specs.declared.term_sort.TermSort.{TermSort}
use Rattle.pn_terms.specs.declared.term_sort.TermSort.TheVariants as terms
use Rattle.pn_values.specs.Kin.{kin_of}
use Rattle.pn_values.specs.Order.{value_cmp}
use Rattle.pn_values.specs.declared.sort.Sort.{Sort}
use Rattle.pn_values.specs.declared.sort.Sort.TheOpen as layer
use Rattle.pn_values.specs.declared.sort.Sort.TheVariants as sorts
use Rattle.pn_values.specs.declared.sort.Sort.TheViews.{out-Sort, out-roll-Sort}
use Rattle.pn_values.specs.declared.value.Value.{Value}
use Rattle.pn_values.specs.declared.value.Value.TheVariants as values
use Rattle.pn_marked.proofs.GroundLemmas.{AreTermsOf, next_term, no_terms, number_term, one_or_more, sort_of_layer}
use Rattle.pn_marked.specs.Ground.{IsBagTermOf, IsTermOf, applied, ground_term, term_of_node}
use Rattle.pn_marked.specs.Marked.{bag_term, so_often}

-- a count is a positive number
positive_member : (widths : List ℕ) (n : ℕ) → 0 < n → n ≤ MAX_COUNT → IsMember widths (values.Int (pos n)) sorts.Positive
positive_member widths n some most =
    ap (λ s. is_member widths s (values.Int (pos n))) (sym sorts.rolls-Positive)
    ∙ member_of_layer widths layer.Positive (values.Int (pos n))
    ∙ ap (is_between (pos 1) greatest_number) (out-int (pos n))
    ∙ and_both (int_le (pos 1) (pos n)) (int_le (pos n) greatest_number) least greatest
  where
    least : int_le (pos 1) (pos n) ≡ true
    least = grind (arith, nat_tests)

    greatest : int_le (pos n) greatest_number ≡ true
    greatest = grind (arith, nat_tests)

-- a number and a basis sort suit `numberof`
counted : (items : List Declaration) (kin : Sort) → Suit items op.NumberOf (terms.Basis sorts.Integer ∷ terms.Basis kin ∷ [])
counted items kin = let out : out-Sort sorts.Integer ≡ layer.Integer = ap out-Sort (sym sorts.rolls-Integer) ∙ out-roll-Sort layer.Integer in rw (out) refl

value_so_often : (n : ℕ) (v : Value) → 0 < n → n ≤ MAX_COUNT → bag_of_value (pos n) v ≡ Some ((v, n) ∷ [])
value_so_often zero v some most = absurd (omega arith)
value_so_often (suc n) v some most = ap (λ b. option_map (λ count. added value_cmp [] v count) (cond b (Some (suc n)) None)) within
  where
    within : nat_le (suc n) 9223372036854775807 ≡ true
    within = grind (arith, nat_tests)

-- the term of a value so often
pub often_term : (items : List Declaration) (kin : Sort) (v : Value) (n : ℕ) (e : Term) → 0 < n → n ≤ MAX_COUNT → IsTermOf items kin v e
    → IsBagTermOf items kin ((v, n) ∷ []) (applied op.NumberOf (term_of_node (nodes.Number (pos n) numbers.Positive) ∷ e ∷ []))
often_term items kin v n e some most one =
    let number = term_of_node (nodes.Number (pos n) numbers.Positive) in
    let args = number ∷ e ∷ [] in
    let all : AreTermsOf items (sorts.Integer ∷ kin ∷ []) (values.Int (pos n) ∷ v ∷ []) args =
    next_term items sorts.Integer (values.Int (pos n)) number (kin ∷ []) (v ∷ []) (e ∷ []) (number_term items (pos n) numbers.Positive (positive_member (widths_of items) n some most)) (next_term items kin v e [] [] [] one (no_terms items)) in
    let ts = terms.Basis sorts.Integer ∷ terms.Basis kin ∷ [] in
    record {
      sort = sort_of_layer items (applied op.NumberOf args) (term_layer.Apply op.NumberOf args) (out_apply (nodes.Apply op.NumberOf args) op.NumberOf args refl) ts (terms.Bag kin) all.sorts (record { number = refl; suit = counted items kin }, refl);
      value = value_with items [] [] (applied op.NumberOf args) (term_layer.Apply op.NumberOf args) (out_apply (nodes.Apply op.NumberOf args) op.NumberOf args refl) (outcomes.Value (values.Int (pos n)) ∷ outcomes.Value v ∷ []) (outcomes.Bag ((v, n) ∷ [])) all.values
          (0, (ts, all.sorts, refl), sym (ap (λ l. bag_where (bag_of_value (number_of l) v)) (out-int (pos n)) ∙ ap bag_where (value_so_often n v some most)));
    }

-- ---- several are added

abbrev single : Value × ℕ → Outcome
single entry = outcomes.Bag (entry ∷ [])

abbrev bags : Sort → List (Value × ℕ) → List TermSort
bags kin bag = map (λ entry. terms.Bag kin) bag

-- terms of multisets in a list
record AreBagTermsOf (items : List Declaration) (kin : Sort) (bag : List (Value × ℕ)) (es : List Term) : Type 0 where
  pub sorts : HaveSorts items es (bags kin bag)
  pub values : HaveValues items [] [] es (map single bag)

next_bag : (items : List Declaration) (kin : Sort) (entry : Value × ℕ) (e : Term) (bag : List (Value × ℕ)) (es : List Term) → IsBagTermOf items kin (entry ∷ []) e → AreBagTermsOf items kin bag es → AreBagTermsOf items kin (entry ∷ bag) (e ∷ es)
next_bag items kin entry e bag es one all = record {
  sorts = have.more (e ∷ es) (bags kin (entry ∷ bag)) e es (terms.Bag kin) (bags kin bag) one.sort.0 refl refl one.sort.1 one.sort.2 all.sorts;
  values = give.more (e ∷ es) (map single (entry ∷ bag)) e es (single entry) (map single bag) one.value.0 refl refl one.value.1 one.value.2 all.values;
}

all_bags : (items : List Declaration) (kin : Sort) (bag : List (Value × ℕ)) → Suit items op.Cardinality (bags kin bag)
all_bags items kin [] = refl
all_bags items kin (entry ∷ bag) = all_bags items kin bag

one_bag : (kin : Sort) (bag : List (Value × ℕ)) (t : TermSort) → Contains (bags kin bag) t → t ≡ terms.Bag kin
one_bag kin [] t c = absurd (contains_nil t c)
one_bag kin (entry ∷ bag) t c = by (contains_cases (terms.Bag kin) (bags kin bag) t c) (one_bag kin bag t)
  where
    by : (terms.Bag kin ≡ t) ⊎ Contains (bags kin bag) t → (Contains (bags kin bag) t → t ≡ terms.Bag kin) → t ≡ terms.Bag kin
    by (inl same) more = sym same
    by (inr there) more = more there

bags_given : (bag : List (Value × ℕ)) → list_all is_given (map single bag) ≡ true
bags_given [] = refl
bags_given (entry ∷ bag) = bags_given bag

bags_back : (bag : List (Value × ℕ)) → map bag_in (map single bag) ≡ map (λ entry. entry ∷ []) bag
bags_back [] = refl
bags_back (entry ∷ bag) = ap (λ bs. (entry ∷ []) ∷ bs) (bags_back bag)

-- a greatest count is kept
abbrev HaveCounts : List (Value × ℕ) → Type 0
HaveCounts = Every (λ entry. (0 < entry.1) × (entry.1 ≤ MAX_COUNT))

in_front : (v : Value) (n : ℕ) (bag : List (Value × ℕ)) → 0 < n → Every (λ later. value_cmp v later.0 ≡ Less) bag → added value_cmp bag v n ≡ (v, n) ∷ bag
in_front v zero bag some below = absurd (omega arith)
in_front v (suc n) [] some below = refl
in_front v (suc n) (entry ∷ bag) some below = ap (λ o. match_ordering o ((v, suc n) ∷ entry ∷ bag) ((entry.0, entry.1 + suc n) ∷ bag) (entry ∷ inserted value_cmp bag (v, suc n))) below.0

total_is : (bag : List (Value × ℕ)) → IsRising value_cmp bag → HaveCounts bag → total_bag (map (λ entry. entry ∷ []) bag) ≡ bag
total_is [] rising counts = refl
total_is (entry ∷ bag) rising counts = ap (λ rest. added value_cmp rest entry.0 entry.1) (total_is bag rising.1 counts.1) ∙ in_front entry.0 entry.1 bag counts.0.0 rising.0

within_is : (bag : List (Value × ℕ)) → HaveCounts bag → list_all (λ entry. nat_le entry.1 9223372036854775807) bag ≡ true
within_is [] counts = refl
within_is (entry ∷ bag) counts = and_both (nat_le entry.1 9223372036854775807) (list_all (λ e. nat_le e.1 9223372036854775807) bag) (least counts.0.1) (within_is bag counts.1)
  where
    least : entry.1 ≤ MAX_COUNT → nat_le entry.1 9223372036854775807 ≡ true
    least most = grind (arith, nat_tests)

sum_is : (bag : List (Value × ℕ)) → IsRising value_cmp bag → HaveCounts bag → bag_sum (map bag_in (map single bag)) ≡ Some bag
sum_is bag rising counts =
    ap bag_sum (bags_back bag)
    ∙ ap within_counts (total_is bag rising counts)
    ∙ ap (λ b. cond b (Some bag) None) (within_is bag counts)

added_term : (items : List Declaration) (kin : Sort) (entry : Value × ℕ) (bag : List (Value × ℕ)) (es : List Term) → IsRising value_cmp (entry ∷ bag) → HaveCounts (entry ∷ bag) → AreBagTermsOf items kin (entry ∷ bag) es → IsBagTermOf items kin (entry ∷ bag) (applied op.Add es)
added_term items kin entry bag es rising counts all =
    let ts = bags kin (entry ∷ bag) in
    let os = map single (entry ∷ bag) in
    record {
      sort = sort_of_layer items (applied op.Add es) (term_layer.Apply op.Add es) (out_apply (nodes.Apply op.Add es) op.Add es refl) ts (terms.Bag kin) all.sorts
          (record { number = one_or_more op.Add refl refl (length (bags kin bag)); suit = (all_bags items kin (entry ∷ bag), λ s t c d. one_bag kin (entry ∷ bag) s c ∙ sym (one_bag kin (entry ∷ bag) t d)) }, refl);
      value = value_with items [] [] (applied op.Add es) (term_layer.Apply op.Add es) (out_apply (nodes.Apply op.Add es) op.Add es refl) os (outcomes.Bag (entry ∷ bag)) all.values
          (0, (ts, all.sorts, refl), sym (ap (λ b. cond b (truth_row 0 op.Add os) outcomes.NoValue) (bags_given (entry ∷ bag)) ∙ ap bag_where (sum_is (entry ∷ bag) rising counts)));
    }

module _ (items : List Declaration) (s : Sort) (ground : (v : Value) → IsMember (widths_of items) v s → IsTermOf items (kin_of s) v (ground_term items s v)) where
  abbrev AreMembers : List (Value × ℕ) → Type 0
  AreMembers = Every (λ entry. IsMember (widths_of items) entry.0 s)

  each_term : (entry : Value × ℕ) → (0 < entry.1) × (entry.1 ≤ MAX_COUNT) → IsMember (widths_of items) entry.0 s → IsBagTermOf items (kin_of s) (entry ∷ []) (so_often items s entry)
  each_term entry counts member = often_term items (kin_of s) entry.0 entry.1 (ground_term items s entry.0) counts.0 counts.1 (ground entry.0 member)

  all_terms : (bag : List (Value × ℕ)) → HaveCounts bag → AreMembers bag → AreBagTermsOf items (kin_of s) bag (map (so_often items s) bag)
  all_terms [] counts members = record { sorts = have.none [] [] refl refl; values = give.none [] [] refl refl }
  all_terms (entry ∷ bag) counts members = next_bag items (kin_of s) entry (so_often items s entry) bag (map (so_often items s) bag) (each_term entry counts.0 members.0) (all_terms bag counts.1 members.1)

  -- the term of a multiset says it
  pub bag_term_is : (bag : List (Value × ℕ)) (e : Term) → IsBag value_cmp bag → AreMembers bag → bag_term items s bag ≡ Some e → IsBagTermOf items (kin_of s) bag e
  bag_term_is [] e is members there = absurd cc
  bag_term_is (entry ∷ []) e is members there = let same : so_often items s entry ≡ e = cc in subst (IsBagTermOf items (kin_of s) (entry ∷ [])) same (each_term entry is.counted.0 members.0)
  bag_term_is (entry ∷ other ∷ more) e is members there =
      let whole = entry ∷ other ∷ more in
      let same : applied op.Add (map (so_often items s) whole) ≡ e = cc in
      subst (IsBagTermOf items (kin_of s) whole) same (added_term items (kin_of s) entry (other ∷ more) (map (so_often items s) whole) is.rising is.counted (all_terms whole is.counted members))
