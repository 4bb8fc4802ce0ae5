-- What a term gives is of its sort.
use Rattle.std.proofs.Common.{◌≡◌, ℕ, ℤ, List, [], ◌∷◌, Option, Some, true, refl, sym, ap, ◌∙◌, subst}
use Rattle.std.specs.List.{AllZip}
use Rattle.pn_bag.specs.Bag.{IsBag}
use Rattle.pn_carriers.specs.Carriers.{carrier}
use Rattle.pn_carriers.specs.Members.{IsMember, is_member}
use Rattle.pn_carriers.proofs.KinLemmas.{own_kin}
use Rattle.pn_names.specs.Names.{partition_named, widths_of}
use Rattle.pn_operations.specs.Rows.{value_given}
use Rattle.pn_operations.specs.declared.outcome.Outcome.{Outcome}
use Rattle.pn_operations.specs.declared.outcome.Outcome.TheVariants as outcomes
use Rattle.pn_operators.specs.declared.op.Op.{Op}
use Rattle.pn_resolve.proofs.Meanings.{resolves_once}
use Rattle.pn_sorts.specs.Lookups.{IsBaseSort, IsVariableSort, sort_of_constant}
use Rattle.pn_syntax.specs.declared.declaration.Declaration.{Declaration}
use Rattle.pn_syntax.specs.declared.sort_expr.SortExpr.{SortExpr}
use Rattle.pn_syntax.specs.declared.term.NumberSort.{NumberSort}
use Rattle.pn_syntax.specs.declared.term.NumberSort.TheVariants as numbers
use Rattle.pn_syntax.specs.declared.term.Term.{Term}
use Rattle.pn_syntax.specs.declared.term.TermNode.TheOpen as layer
use Rattle.pn_syntax.specs.declared.term.TermNode.TheVariants as nodes
use Rattle.pn_terms.specs.Rows.{first_of, given_by}
use Rattle.pn_terms.specs.Sorts.{Gives, HasSort, HaveSorts, IsOfAll, IsOfConstant, IsOfElement, IsOfOperator, IsOfVariable, is_small, number_sort, none, more}
use Rattle.pn_terms.specs.Terms.{Layer, layer_of, parts_in, parts_of}
use Rattle.pn_terms.specs.declared.term_sort.TermSort.{TermSort}
use Rattle.pn_terms.specs.declared.term_sort.TermSort.TheVariants as terms
use Rattle.pn_terms.proofs.SortLemmas.{first_have, same_some, sorts_agree}
use Rattle.pn_terms.proofs.TermLemmas.{out_element}
use Rattle.pn_values.specs.Kin.{kin_of, kin_step}
use Rattle.pn_values.specs.Order.{value_cmp}
use Rattle.pn_values.specs.declared.constant_ref.ConstantRef.{ConstantRef}
use Rattle.pn_values.specs.declared.sort.Sort.{Sort}
use Rattle.pn_values.specs.declared.sort.Sort.TheOpen as sort_layer
use Rattle.pn_values.specs.declared.sort.Sort.TheVariants as sorts
use Rattle.pn_values.specs.declared.sort.Sort.TheVariants.{rolls-Integer, rolls-Natural, rolls-Positive}
use Rattle.pn_values.specs.declared.sort.Sort.TheFolds.{fold-roll-Sort}
use Rattle.pn_values.specs.declared.value.Value.{Value}
use Rattle.pn_values.specs.declared.value.Value.TheVariants as values
use Rattle.pn_eval.specs.Assignments.{IsAssignment, value_of_variable}
use Rattle.pn_eval.specs.Outcomes.{IsOutcomeOf}
use Rattle.pn_eval.specs.Values.{GivesValue, HasValue, HaveValues, IsConstantValue, IsEachOnce, IsElementValue, IsOperatorValue, IsRoundFor, IsVariableValue}
use Rattle.pn_eval.proofs.EveryLemmas.{carrier_bag, carrier_members, once_each}
use Rattle.pn_eval.proofs.KinLemmas.{member_of_kin}
use Rattle.pn_eval.proofs.LeafLemmas.{constant_member, element_member}
use Rattle.pn_eval.proofs.MemberLemmas.{list_member_is, truth_member}
use Rattle.pn_eval.proofs.ReadyLemmas.{sorted_layer}
use Rattle.pn_eval.proofs.RoundLemmas.{small_finite}
use Rattle.pn_eval.proofs.RowLemmas.{rows_keep_sorts}
use Rattle.pn_eval.proofs.ValueLemmas.{FirstGives, empty_values, first_gives}

-- an outcome and a sort that are the same as two others
of_same : (items : List Declaration) (s t : TermSort) (o p : Outcome) → s ≡ t → o ≡ p → IsOutcomeOf items t p → IsOutcomeOf items s o
of_same items s t o p same_sort same h = subst (λ x. IsOutcomeOf items x o) (sym same_sort) (subst (IsOutcomeOf items t) (sym same) h)

number_kin : (sort : NumberSort) → kin_of (number_sort sort) ≡ sorts.Integer
number_kin numbers.Integer = ap kin_of (sym rolls-Integer) ∙ fold-roll-Sort Sort kin_step sort_layer.Integer
number_kin numbers.Natural = ap kin_of (sym rolls-Natural) ∙ fold-roll-Sort Sort kin_step sort_layer.Natural
number_kin numbers.Positive = ap kin_of (sym rolls-Positive) ∙ fold-roll-Sort Sort kin_step sort_layer.Positive

-- the layer of `partitionelementof`, of a name and an argument that are the same as these
pub out_part : (e : Term) (name n : List ℕ) (arg p : Term) → e.node ≡ nodes.PartitionOf name arg → n ≡ name → p ≡ arg → layer_of e ≡ layer.PartitionOf n p
out_part e name n arg p is same same_arg = out_element e.node n p (is ∙ ap (λ x. nodes.PartitionOf x arg) (sym same) ∙ ap (λ x. nodes.PartitionOf n x) (sym same_arg))

module _ (items : List Declaration) (vars : List ℕ) (given : List Value) (assignment : IsAssignment items vars given) where
  keep_variable : (name : List ℕ) (s : TermSort) (o : Outcome) → IsOfVariable items name s → IsVariableValue items vars given name o → IsOutcomeOf items s o
  keep_variable name s o (v, sort, named, of_sort, is) (w, value, named', at, is') =
      let same = same_some w v _ named' named in
      let member = assignment.members v value sort (subst (λ x. value_of_variable vars given x ≡ Some value) same at) of_sort in
      of_same items s (terms.Basis (kin_of sort)) o (outcomes.Value value) is is' (member_of_kin (widths_of items) sort value member)

  keep_constant : (name : List ℕ) (s : TermSort) (o : Outcome) → IsOfConstant items name s → IsConstantValue items name o → IsOutcomeOf items s o
  keep_constant name s o (c, sort, named, of_sort, is) (d, named', is') =
      let same = same_some d c _ named' named in
      of_same items s (terms.Basis sort) o (outcomes.Value (values.Const c.index)) is (is' ∙ ap (λ (x : ConstantRef). outcomes.Value (values.Const x.index)) same) (constant_member items name c sort named of_sort)

  keep_number : (value : ℤ) (sort : NumberSort) (s : TermSort) (o : Outcome) → is_member (widths_of items) (number_sort sort) (values.Int value) ≡ true → s ≡ terms.Basis sorts.Integer → o ≡ outcomes.Value (values.Int value) → IsOutcomeOf items s o
  keep_number value sort s o good is is' =
      of_same items s (terms.Basis sorts.Integer) o (outcomes.Value (values.Int value)) is is'
      (subst (IsMember (widths_of items) (values.Int value)) (number_kin sort) (member_of_kin (widths_of items) (number_sort sort) (values.Int value) good))

  keep_all : (e : SortExpr) (s : TermSort) (o : Outcome) → IsOfAll items e s → IsEachOnce items e o → IsOutcomeOf items s o
  keep_all e s o (sort, resolves, small, is) (sort', resolves', is') =
      let same = resolves_once items e sort' sort resolves' resolves in
      let all = once_each (carrier (widths_of items) sort) in
      of_same items s (terms.Bag sort) o (outcomes.Bag all) (is ∙ ap terms.Bag (own_kin sort (small_finite items sort small))) (is' ∙ ap (λ x. outcomes.Bag (once_each (carrier (widths_of items) x))) same)
      (carrier_bag (widths_of items) sort, carrier_members (widths_of items) sort)

  keep_element : (name : List ℕ) (ts : List TermSort) (s : TermSort) (p o : Outcome) → IsOfElement items name ts s → IsElementValue items name p o → IsOutcomeOf items s o
  keep_element name ts s outcomes.NoValue o of_element is = subst (IsOutcomeOf items s) (sym is) tt
  keep_element name ts s (outcomes.Bag bag) o of_element h = absurd h
  keep_element name ts s (outcomes.Value value) o (p, base, named, of_base, fit, is) (q, number, named', part, is') =
      let same = same_some q p _ named' named in
      of_same items s (terms.Basis (sorts.Partition q)) o (outcomes.Value (values.Const number)) (is ∙ ap (λ x. terms.Basis (sorts.Partition x)) (sym same)) is' (element_member items q number value part)

  keep_operator : (op : Op) (args : List Term) (ts : List TermSort) (s : TermSort) (os : List Outcome) (o : Outcome) → HaveSorts items args ts → AllZip (IsOutcomeOf items) ts os → IsOfOperator items op ts s → IsOperatorValue items op args os o → IsOutcomeOf items s o
  keep_operator op args ts s os o have all fit (round, (us, have', goes), is) =
      let same = sorts_agree items args us ts have' have in
      of_same items s (given_by op ts) o (value_given round op os) fit.1 is (rows_keep_sorts items round op ts os fit.0 all (λ t rest split. subst (λ xs. IsRoundFor items op (first_of xs) round) (same ∙ split) goes))

  layer_keeps : (l : Layer) (ts : List TermSort) (s : TermSort) (os : List Outcome) (o : Outcome) → HaveSorts items (parts_in l) ts → AllZip (IsOutcomeOf items) ts os → Gives items l ts s → GivesValue items vars given l os o → IsOutcomeOf items s o
  layer_keeps (layer.Variable name) ts s os o have all sorted gives = keep_variable name s o sorted gives
  layer_keeps (layer.UserOp name) ts s os o have all sorted gives = keep_constant name s o sorted gives
  layer_keeps (layer.Bool truth) ts s os o have all sorted gives = of_same items s (terms.Basis sorts.Bool) o (outcomes.Value (values.Bool truth)) sorted gives (truth_member (widths_of items) truth)
  layer_keeps (layer.Number value sort) ts s os o have all sorted gives = keep_number value sort s o sorted.0 sorted.1 gives
  layer_keeps (layer.RangeConst value start end) ts s os o have all sorted gives = of_same items s (terms.Basis (sorts.Range start end)) o (outcomes.Value (values.Int value)) sorted.1 gives sorted.0
  layer_keeps (layer.Text text) ts s os o have all sorted gives = of_same items s (terms.Basis sorts.Text) o (outcomes.Value (values.Text text)) sorted.1 gives sorted.0
  layer_keeps (layer.All e) ts s os o have all sorted gives = keep_all e s o sorted gives
  layer_keeps (layer.Empty e) ts s os o have all (sort, resolves, is) gives = of_same items s (terms.Bag (kin_of sort)) o (outcomes.Bag []) is gives (record { rising = tt; counted = tt }, tt)
  layer_keeps (layer.EmptyList e) ts s os o have all (sort, resolves, is) gives = of_same items s (terms.Basis (sorts.List (kin_of sort))) o (outcomes.Value (values.List [])) is gives (list_member_is (widths_of items) (kin_of sort) [] refl)
  layer_keeps (layer.PartitionOf name arg) ts s os o have all sorted (p, is, gives) = keep_element name ts s p o sorted gives
  layer_keeps (layer.Apply op args) ts s os o have all sorted gives = keep_operator op args ts s os o have all sorted gives

  all_keep : (es : List Term) (ts : List TermSort) (os : List Outcome) → HaveSorts items es ts → HaveValues items vars given es os → AllZip (IsOutcomeOf items) ts os
  all_keep es ts os (none _ _ is_es is_ts) have =
      subst (λ xs. AllZip (IsOutcomeOf items) xs os) (sym is_ts) (subst (AllZip (IsOutcomeOf items) []) (sym (empty_values items vars given es os is_es have)) tt)
  all_keep es ts os (more _ _ e rest s others us is_es is_ts parts gives have) h =
      let x = first_gives items vars given es e rest os is_es h in
      let below = all_keep (parts_of e) us x.below parts x.parts in
      let first = layer_keeps (layer_of e) us s x.below x.first parts below gives x.gives in
      subst (λ xs. AllZip (IsOutcomeOf items) xs os) (sym is_ts) (subst (AllZip (IsOutcomeOf items) (s ∷ others)) (sym x.whole) (first, all_keep rest others x.others have x.have))

  pub value_keeps : (e : Term) (s : TermSort) (o : Outcome) → HasSort items e s → HasValue items vars given e o → IsOutcomeOf items s o
  value_keeps e s o (ts, have, gives) (os, have', gives') = layer_keeps (layer_of e) ts s os o have (all_keep (parts_of e) ts os have have') gives gives'

  -- what the argument of `partitionelementof` gives is of the base sort of the partition
  pub element_listed : (e : Term) (name n : List ℕ) (arg p : Term) → e.node ≡ nodes.PartitionOf name arg → n ≡ name → p ≡ arg → (s : TermSort) × HasSort items e s → (o : Outcome) → HasValue items vars given p o
      → (q : ℕ) × (base : Sort) × (partition_named items n ≡ Some q) × IsBaseSort items q base × IsOutcomeOf items (terms.Basis base) o
  element_listed e name n arg p is same same_arg sorted o value =
      let has = sorted_layer items e (layer.PartitionOf n p) (out_part e name n arg p is same same_arg) sorted in
      let x = first_have items (p ∷ []) p [] has.1 refl has.2 in
      let whole : x.sort ∷ x.others ≡ terms.Basis has.3.1 ∷ [] = sym x.whole ∙ has.3.4 in
      let of_base : x.sort ≡ terms.Basis has.3.1 = cc in
      (has.3.0, has.3.1, has.3.2, has.3.3, value_keeps p (terms.Basis has.3.1) o (subst (HasSort items p) of_base (x.below, x.parts, x.gives)) value)
