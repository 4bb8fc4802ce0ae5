-- A term gives one thing at most.
use Rattle.std.proofs.Common.{◌≡◌, ◌<◌, ◌≤◌, ◌+◌, ℕ, zero, suc, List, [], ◌∷◌, ◌++◌, length, map, Option, Some, None, IfSome, refl, sym, ap, ◌∙◌, subst, arith, codes}
use Rattle.std.specs.List.{Contains, flat_map, slice_get}
use Rattle.std.specs.Option.{option_and_then, option_map}
use Rattle.std.proofs.lemmas.Option.{none-some, same_Some, slice_get_within, option_and_then_some}
use Rattle.pn_carriers.specs.Carriers.{carrier}
use Rattle.pn_carriers.specs.Members.{IsMember}
use Rattle.pn_carriers.specs.Sizes.{size_of}
use Rattle.pn_carriers.proofs.NumberLemmas.{by_le}
use Rattle.pn_carriers.proofs.PlaceLemmas.{get_left, get_right, mapped}
use Rattle.pn_facts.proofs.Contained.{at_contains, contains_all_of, contains_at}
use Rattle.pn_faults.specs.Order.{fault_at}
use Rattle.pn_faults.specs.declared.reason.Reason.TheVariants as reasons
use Rattle.pn_names.specs.Names.{at_of, id_of, names_of, widths_of}
use Rattle.pn_operations.specs.Rows.{value_given}
use Rattle.pn_operations.specs.declared.outcome.Outcome.{Outcome}
use Rattle.pn_operations.specs.declared.outcome.Outcome.TheVariants as outcomes
use Rattle.pn_operators.specs.declared.op.Op.{Op}
use Rattle.pn_operators.specs.declared.op.Op.TheVariants as op
use Rattle.pn_partitions.specs.Partitions.{IsOnce, Splits, all_values, listed_value, values_in}
use Rattle.pn_partitions.specs.Tables.{place_of}
use Rattle.pn_partitions.proofs.BaseLemmas.{IsBase, base_found}
use Rattle.pn_resolve.specs.Meaning.{Resolves}
use Rattle.pn_resolve.specs.Standing.{at_of_constant, base_of, elements_of, constant_range}
use Rattle.pn_resolve.proofs.Meanings.{resolves_once}
use Rattle.pn_sorts.specs.Lookups.{IsPartOf}
use Rattle.pn_sorts.specs.Standing.{IsBadPartition, IsFaultless, besides, bad_partition}
use Rattle.pn_syntax.specs.declared.declaration.Declaration.{Declaration}
use Rattle.pn_syntax.specs.declared.declaration.ConstExpr.{ConstExpr}
use Rattle.pn_syntax.specs.declared.declaration.PartElement.{PartElement}
use Rattle.pn_syntax.specs.declared.sort_expr.SortExpr.{SortExpr}
use Rattle.pn_syntax.specs.declared.term.Term.{Term}
use Rattle.pn_syntax.specs.declared.term.TermNode.TheOpen as layer
use Rattle.pn_terms.specs.Rows.{first_of}
use Rattle.pn_terms.specs.Terms.{Layer, layer_of, parts_of}
use Rattle.pn_terms.specs.declared.term_sort.TermSort.{TermSort}
use Rattle.pn_terms.proofs.SortLemmas.{base_once, same_basis, same_some, sorts_agree}
use Rattle.pn_values.specs.declared.constant_ref.ConstantRef.{ConstantRef}
use Rattle.pn_values.specs.declared.sort.Sort.{Sort}
use Rattle.pn_values.specs.declared.value.Value.{Value}
use Rattle.pn_values.specs.declared.value.Value.TheVariants as values
use Rattle.pn_eval.specs.Assignments.{value_of_variable}
use Rattle.pn_eval.specs.Values.{GivesValue, HasValue, HaveValues, IsElementValue, IsRoundFor, none, more}
use Rattle.pn_eval.proofs.EveryLemmas.{once_each}
use Rattle.pn_eval.proofs.ValueLemmas.{FirstGives, empty_values, first_gives}

-- ---- one element of a partition lists a value

-- two lists that both have an item leave it at two places of all
twice : {X A : Type 0} (f : X → List A) (xs : List X) (n m : ℕ) (x y : X) (a : A) → n < m → slice_get xs n ≡ Some x → slice_get xs m ≡ Some y → Contains (f x) a → Contains (f y) a
    → (i j : ℕ) × (i < j) × (slice_get (flat_map f xs) i ≡ Some a) × (slice_get (flat_map f xs) j ≡ Some a)
twice f [] n m x y a less at_n at_m has_x has_y = absurd (none-some x at_n)
twice f (z ∷ xs) n zero x y a less at_n at_m has_x has_y = absurd (omega (arith, less))
twice f (z ∷ xs) zero (suc m) x y a less at_n at_m has_x has_y =
    let first = at_contains (f z) a (subst (λ w. Contains (f w) a) (sym (same_Some z x at_n)) has_x) in
    let later = at_contains (flat_map f xs) a (contains_all_of f xs y a (contains_at xs m y at_m) has_y) in
    let within = slice_get_within (f z) first.0 a first.1 in
    (first.0, length (f z) + later.0, omega (arith, within), get_left (f z) (flat_map f xs) first.0 a first.1, get_right (f z) (flat_map f xs) later.0 ∙ later.1)
twice f (z ∷ xs) (suc n) (suc m) x y a less at_n at_m has_x has_y =
    let below = twice f xs n m x y a (omega (arith, less)) at_n at_m has_x has_y in
    let on = below.2 in
    (length (f z) + below.0, length (f z) + below.1, omega (arith, on), get_right (f z) (flat_map f xs) below.0 ∙ below.3, get_right (f z) (flat_map f xs) below.1 ∙ below.4)

not_twice : (listed : List (Option Value)) (v : Value) (i j : ℕ) → IsOnce listed v → i < j → slice_get listed i ≡ Some (Some v) → slice_get listed j ≡ Some (Some v) → ⊥
not_twice listed v i j once less at_i at_j =
    let one = once.2 i at_i in
    let other = once.2 j at_j in
    omega (arith, one, other, less)

placed_member : (items : List Declaration) (base : Sort) (size : ℕ) (value : ℕ → Value) → IsBase items base size value → (v : Value) (place : Option ℕ) → Some v ≡ option_map value place → IfSome place (λ k. k < size) → IsMember (widths_of items) v base
placed_member items base size value based v None is within = absurd (none-some v (sym is))
placed_member items base size value based v (Some k) is within = subst (λ w. IsMember (widths_of items) w base) (sym (same_Some v (value k) is)) (based.each k within)

-- what an element lists is of the base sort
lists_member : (items : List Declaration) (base : Sort) (element : PartElement) (v : Value) → (size : ℕ) × (value : ℕ → Value) × IsBase items base size value → Contains (values_in items base element) (Some v) → IsMember (widths_of items) v base
lists_member items base element v (size, value, based) lists =
    let at = at_contains (values_in items base element) (Some v) lists in
    let c = mapped (listed_value items base) element.values at.0 (Some v) at.1 in
    placed_member items base size value based v (place_of (names_of items) base c.0) (c.2 ∙ based.listed c.0) (based.within c.0)

-- in declarations without a fault it is not so that a partition fails to split its base sort
splits_here : (items : List Declaration) (d : Declaration) (e : SortExpr) (base : Sort) → IsFaultless items → Contains items d → base_of d ≡ Some e → Resolves items e base → (Splits items base (elements_of d) → ⊥) → ⊥
splits_here items d e base faultless there is resolves bad =
    let f = fault_at reasons.BadPartition (at_of d) (id_of d) in
    faultless f (bad_partition f d there (record {
      expr = e;
      is_base = is;
      base = base;
      resolves = resolves;
      ranges = λ c listed empty. let g = fault_at reasons.EmptyRange (at_of_constant c) (codes "finiteintrange") in faultless g (besides g (constant_range g d c there listed empty refl));
      is_bad = bad;
    }) refl)

part_apart : (items : List Declaration) (p n m : ℕ) (v : Value) → IsFaultless items → n < m → IsPartOf items p v n → IsPartOf items p v m → ⊥
part_apart items p n m v faultless less (base, x, (e, is_base, resolves), at_n, has_x) (base', y, of_base', at_m, has_y) =
    option_and_then_some (λ (d : Declaration). slice_get (elements_of d) n) (slice_get items p) x at_n
    (λ d there is_x. option_and_then_some base_of (slice_get items p) e is_base
    (λ d' there' base_is.
    let same = same_Some d' d (sym there' ∙ there) in
    let same_base : base' ≡ base = base_once items p base' base of_base' (e, is_base, resolves) in
    let is_y : slice_get (elements_of d) m ≡ Some y = sym (ap (option_and_then (λ (w : Declaration). slice_get (elements_of w) m)) there) ∙ at_m in
    let lists_y : Contains (values_in items base y) (Some v) = subst (λ s. Contains (values_in items s y) (Some v)) same_base has_y in
    splits_here items d e base faultless (contains_at items p d there) (subst (λ w. base_of w ≡ Some e) same base_is) resolves
    (λ splits.
    let places = twice (values_in items base) (elements_of d) n m x y (Some v) less is_x is_y has_x lists_y in
    let member = lists_member items base x v (base_found items base splits.splittable) has_x in
    not_twice (all_values items base (elements_of d)) v places.0 places.1 (splits.once v member) places.2 places.3 places.4)))

part_once : (items : List Declaration) (p n m : ℕ) (v : Value) → IsFaultless items → IsPartOf items p v n → IsPartOf items p v m → n ≡ m
part_once items p n m v faultless one other =
    by_le n m
    (λ (le : n ≤ m). by_le m n (λ (ge : m ≤ n). omega (arith, le, ge)) (λ (lt : n < m). absurd (part_apart items p n m v faultless lt one other)))
    (λ (lt : m < n). absurd (part_apart items p m n v faultless lt other one))

-- ---- one layer

round_once : (items : List Declaration) (o : Op) (s : TermSort) (r t : ℕ) → IsRoundFor items o s r → IsRoundFor items o s t → r ≡ t
round_once items op.Successor s r t (b, is, size) (c, is', size') = let same = same_basis b c (sym is ∙ is') in same_some r t (size_of (widths_of items) c) (subst (λ x. size_of (widths_of items) x ≡ Some r) same size) size'
round_once items op.Predecessor s r t (b, is, size) (c, is', size') = let same = same_basis b c (sym is ∙ is') in same_some r t (size_of (widths_of items) c) (subst (λ x. size_of (widths_of items) x ≡ Some r) same size) size'
round_once items _ s r t h k = h ∙ sym k

module _ (items : List Declaration) (vars : List ℕ) (given : List Value) (faultless : IsFaultless items) where
  element_once : (name : List ℕ) (q o p : Outcome) → IsElementValue items name q o → IsElementValue items name q p → o ≡ p
  element_once name outcomes.NoValue o p h k = h ∙ sym k
  element_once name (outcomes.Bag bag) o p h k = absurd h
  element_once name (outcomes.Value value) o p (place, number, named, part, is) (place', number', named', part', is') =
      let same = same_some place place' _ named named' in
      is ∙ ap (λ n. outcomes.Value (values.Const n)) (part_once items place' number number' value faultless (subst (λ x. IsPartOf items x value number) same part) part') ∙ sym is'

  layer_once : (l : Layer) (os : List Outcome) (o p : Outcome) → GivesValue items vars given l os o → GivesValue items vars given l os p → o ≡ p
  layer_once (layer.Variable name) os o p (v, value, named, at, is) (w, value', named', at', is') =
      let same = same_some v w _ named named' in
      is ∙ ap outcomes.Value (same_some value value' (value_of_variable vars given w) (subst (λ x. value_of_variable vars given x ≡ Some value) same at) at') ∙ sym is'
  layer_once (layer.UserOp name) os o p (c, named, is) (d, named', is') = is ∙ ap (λ (x : ConstantRef). outcomes.Value (values.Const x.index)) (same_some c d _ named named') ∙ sym is'
  layer_once (layer.Bool truth) os o p h k = h ∙ sym k
  layer_once (layer.Number value sort) os o p h k = h ∙ sym k
  layer_once (layer.RangeConst value start end) os o p h k = h ∙ sym k
  layer_once (layer.Text text) os o p h k = h ∙ sym k
  layer_once (layer.All e) os o p (sort, resolves, is) (sort', resolves', is') = is ∙ ap (λ s. outcomes.Bag (once_each (carrier (widths_of items) s))) (resolves_once items e sort sort' resolves resolves') ∙ sym is'
  layer_once (layer.Empty e) os o p h k = h ∙ sym k
  layer_once (layer.EmptyList e) os o p h k = h ∙ sym k
  layer_once (layer.PartitionOf name arg) os o p (q, is, gives) (q', is', gives') =
      let whole : q ∷ [] ≡ q' ∷ [] = sym is ∙ is' in
      let same : q ≡ q' = cc in
      element_once name q' o p (subst (λ x. IsElementValue items name x o) same gives) gives'
  layer_once (layer.Apply o args) os out out' (r, (ts, have, goes), is) (t, (us, have', goes'), is') =
      let same = sorts_agree items args ts us have have' in
      is ∙ ap (λ n. value_given n o os) (round_once items o (first_of us) r t (subst (λ xs. IsRoundFor items o (first_of xs) r) same goes) goes') ∙ sym is'

  -- ---- terms

  values_agree : (es : List Term) (os ps : List Outcome) → HaveValues items vars given es os → HaveValues items vars given es ps → os ≡ ps
  values_agree es os ps (none _ _ is_es is_os) h = is_os ∙ sym (empty_values items vars given es ps is_es h)
  values_agree es os ps (more _ _ e rest o others qs is_es is_os parts gives have) h =
      let x = first_gives items vars given es e rest ps is_es h in
      let below : qs ≡ x.below = values_agree (parts_of e) qs x.below parts x.parts in
      let first : o ≡ x.first = layer_once (layer_of e) x.below o x.first (subst (λ xs. GivesValue items vars given (layer_of e) xs o) below gives) x.gives in
      let next : others ≡ x.others = values_agree rest others x.others have x.have in
      is_os ∙ ap (λ y. y ∷ others) first ∙ ap (λ ys. x.first ∷ ys) next ∙ sym x.whole

  pub value_once : (e : Term) (o p : Outcome) → HasValue items vars given e o → HasValue items vars given e p → o ≡ p
  value_once e o p (os, have, gives) (ps, have', gives') =
      layer_once (layer_of e) ps o p (subst (λ xs. GivesValue items vars given (layer_of e) xs o) (values_agree (parts_of e) os ps have have') gives) gives'
