-- The ground term of a value has that value, and the kin of its sort.
use Rattle.std.proofs.Common.{◌≡◌, ◌⊎◌, inl, inr, ℕ, suc, ℤ, Bool, true, ◌&&◌, nat_le, nat_lt, List, [], ◌∷◌, length, map, Option, None, Some, IsSome, cond, pos, refl, sym, ap, ◌∙◌, subst, arith}
use Rattle.std.specs.List.{Contains, list_all}
use Rattle.std.specs.Option.{option_and_then, unwrap_or}
use Rattle.std.proofs.lemmas.Bool.{false≢true}
use Rattle.std.proofs.lemmas.Bool.Decides.{nat_tests}
use Rattle.pn_facts.proofs.Contained.{contains_nil, contains_cases}
use Rattle.pn_eval.proofs.MemberLemmas.{out_list_value, out_text_value}
use Rattle.pn_facts.proofs.Truths.{and_left, and_right}
use Rattle.pn_carriers.proofs.ValueLemmas.{dot_is, number_is, out-bool, out-const, out-int, out-tuple, truth_is, tuple_is}
use Rattle.pn_carriers.specs.Members.{IsMember, greatest_number, is_between, is_document_text, is_list_of, is_member, is_member_layer, least_number, pass_each}
use Rattle.pn_eval.proofs.KinLemmas.{member_of_layer}
use Rattle.pn_eval.proofs.ValueLemmas.{value_of_leaf, value_with}
use Rattle.pn_eval.specs.Values.{GivesValue, HaveValues, IsRoundFor}
use Rattle.pn_eval.specs.Values as give
use Rattle.pn_ids.specs.Names.{AreDistinct}
use Rattle.pn_names.proofs.DeclaredLemmas.{declared_found}
use Rattle.pn_names.specs.Names.{constant_named, constant_ref, id_of_constant, names_of, widths_of}
use Rattle.pn_names.specs.declared.Declared.TheVariants as declared
use Rattle.pn_operations.specs.Outcomes.{is_given, items_of, number_of, place_of, text_of, truth_of, value_in}
use Rattle.pn_operations.specs.declared.outcome.Outcome.{Outcome}
use Rattle.pn_operations.specs.declared.outcome.Outcome.TheVariants as outcomes
use Rattle.pn_operations.specs.Rows.{truth_row, value_given}
use Rattle.pn_operators.specs.Operators.{least_of, most_of}
use Rattle.pn_operators.specs.declared.op.Op.{Op}
use Rattle.pn_operators.specs.declared.op.Op.TheVariants as op
use Rattle.pn_resolve.specs.Meaning.{Resolves}
use Rattle.pn_resolve.specs.Naming.{NamesDeclared, names_declared, names_declared_layer}
use Rattle.pn_sorts.proofs.MemberLemmas.{enumeration_member, partition_member}
use Rattle.pn_sorts.specs.Lookups.{IsDeclaredConstant, sort_of_constant}
use Rattle.pn_syntax.specs.declared.declaration.Declaration.{Declaration}
use Rattle.pn_syntax.specs.declared.term.NumberSort.{NumberSort}
use Rattle.pn_syntax.specs.declared.term.NumberSort.TheVariants as numbers
use Rattle.pn_syntax.specs.declared.term.Term.{Term}
use Rattle.pn_syntax.specs.declared.term.TermNode.TheOpen as term_layer
use Rattle.pn_syntax.specs.declared.term.TermNode.TheVariants as nodes
use Rattle.pn_terms.proofs.TermLemmas.{out_apply, out_constant, out_empty_list, out_number, out_range, out_text, out_truth}
use Rattle.pn_terms.specs.Rows.{Fits, Suit, at_most, basis_of, first_of, given_by, takes}
use Rattle.pn_terms.specs.Sorts.{Gives, HasSort, HaveSorts, number_sort}
use Rattle.pn_terms.specs.Sorts as have
use Rattle.pn_terms.specs.Terms.{Layer, layer_of, parts_in}
use Rattle.pn_terms.specs.declared.term_sort.TermSort.{TermSort}
use Rattle.pn_terms.specs.declared.term_sort.TermSort.TheVariants as terms
use Rattle.pn_values.specs.Kin.{kin_of, kin_step}
use Rattle.pn_values.specs.declared.constant_ref.ConstantRef.{ConstantRef}
use Rattle.pn_values.specs.declared.sort.Sort.{Sort}
use Rattle.pn_values.specs.declared.sort.Sort.TheFolds.{fold-roll-Sort, ind-Sort, map-Sort}
use Rattle.pn_values.specs.declared.sort.Sort.TheOpen as layer
use Rattle.pn_values.specs.declared.sort.Sort.TheVariants as sorts
use Rattle.pn_values.specs.declared.sort.Sort.TheViews.{roll-Sort}
use Rattle.pn_values.specs.declared.value.Value.{Value}
use Rattle.pn_values.specs.declared.value.Value.TheOpen as value_layer
use Rattle.pn_values.specs.declared.value.Value.TheVariants as values
use Rattle.pn_values.specs.declared.value.Value.TheVariants.{rolls-Text, rolls-List}
use Rattle.pn_values.specs.declared.value.Value.TheViews.{out-Value, roll-Value, roll-out-Value}
use Rattle.pn_marked.proofs.WritingLemmas.{written_resolves, writing_at}
use Rattle.pn_marked.specs.Ground.{IsTermOf, Writing, applied, constant_id, ground_term, is_sound, is_sound_layer, parts_of_tuple, sort_written, term_of_list, term_of_node, terms_of_parts, writing_layer, writing_of}

-- ---- texts and lists among values

text_at : (v : Value) (x : value_layer.Value-F Value) → out-Value v ≡ x → is_document_text x ≡ true → (t : List ℕ) × (v ≡ values.Text t)
text_at v value_layer.Dot is h = absurd (false≢true h)
text_at v (value_layer.Bool b) is h = absurd (false≢true h)
text_at v (value_layer.Const c) is h = absurd (false≢true h)
text_at v (value_layer.Int z) is h = absurd (false≢true h)
text_at v (value_layer.Text t) is h = (t, sym (roll-out-Value v) ∙ ap roll-Value is ∙ rolls-Text t)
text_at v (value_layer.Tuple vs) is h = absurd (false≢true h)
text_at v (value_layer.List vs) is h = absurd (false≢true h)

pub list_at : (test : Value → Bool) (v : Value) (x : value_layer.Value-F Value) → out-Value v ≡ x → is_list_of test x ≡ true → (vs : List Value) × (list_all test vs ≡ true) × (v ≡ values.List vs)
list_at test v value_layer.Dot is h = absurd (false≢true h)
list_at test v (value_layer.Bool b) is h = absurd (false≢true h)
list_at test v (value_layer.Const c) is h = absurd (false≢true h)
list_at test v (value_layer.Int z) is h = absurd (false≢true h)
list_at test v (value_layer.Text t) is h = absurd (false≢true h)
list_at test v (value_layer.Tuple vs) is h = absurd (false≢true h)
list_at test v (value_layer.List vs) is h = (vs, h, sym (roll-out-Value v) ∙ ap roll-Value is ∙ rolls-List vs)

-- ---- terms by their layers

pub sort_of_layer : (items : List Declaration) (e : Term) (l : Layer) → layer_of e ≡ l → (ts : List TermSort) (t : TermSort) → HaveSorts items (parts_in l) ts → Gives items l ts t → HasSort items e t
sort_of_layer items e l is ts t have gives = (ts, subst (λ m. HaveSorts items (parts_in m) ts) (sym is) have, subst (λ m. Gives items m ts t) (sym is) gives)

-- terms in a list have these sorts where each has its own
pub record AreTermsOf (items : List Declaration) (kins : List Sort) (vs : List Value) (es : List Term) : Type 0 where
  pub sorts : HaveSorts items es (map (λ s. terms.Basis s) kins)
  pub values : HaveValues items [] [] es (map (λ v. outcomes.Value v) vs)

-- one more in front
pub next_term : (items : List Declaration) (kin : Sort) (v : Value) (e : Term) (kins : List Sort) (vs : List Value) (es : List Term) → IsTermOf items kin v e → AreTermsOf items kins vs es → AreTermsOf items (kin ∷ kins) (v ∷ vs) (e ∷ es)
next_term items kin v e kins vs es one all = record {
  sorts = have.more (e ∷ es) (map (λ s. terms.Basis s) (kin ∷ kins)) e es (terms.Basis kin) (map (λ s. terms.Basis s) kins) one.sort.0 refl refl one.sort.1 one.sort.2 all.sorts;
  values = give.more (e ∷ es) (map (λ v. outcomes.Value v) (v ∷ vs)) e es (outcomes.Value v) (map (λ v. outcomes.Value v) vs) one.value.0 refl refl one.value.1 one.value.2 all.values;
}

pub no_terms : (items : List Declaration) → AreTermsOf items [] [] []
no_terms items = record { sorts = have.none [] [] refl refl; values = give.none [] [] refl refl }

-- ---- lists of sorts and of outcomes

all_basis : (items : List Declaration) (kins : List Sort) → Suit items op.Tuple (map (λ s. terms.Basis s) kins)
all_basis items [] = refl
all_basis items (kin ∷ kins) = all_basis items kins

kins_back : (kins : List Sort) → map basis_of (map (λ s. terms.Basis s) kins) ≡ kins
kins_back [] = refl
kins_back (kin ∷ kins) = ap (λ ks. kin ∷ ks) (kins_back kins)

all_given : (vs : List Value) → list_all is_given (map (λ v. outcomes.Value v) vs) ≡ true
all_given [] = refl
all_given (v ∷ vs) = all_given vs

values_back : (vs : List Value) → map value_in (map (λ v. outcomes.Value v) vs) ≡ vs
values_back [] = refl
values_back (v ∷ vs) = ap (λ us. v ∷ us) (values_back vs)

-- an operator that takes one argument or more
pub one_or_more : (o : Op) → least_of o ≡ 1 → most_of o ≡ None → (n : ℕ) → takes o (suc n) ≡ true
one_or_more o least most n = (λ i. nat_le (least i) (suc n) && at_most (suc n) (most i)) ∙ (λ i. at_least i && true)
  where
    at_least : nat_le 1 (suc n) ≡ true
    at_least = grind (arith, nat_tests)

-- what an operator gives that doesn't go round, where all arguments are values
given_row : (o : Op) (vs : List Value) (out : Outcome) → truth_row 0 o (map (λ v. outcomes.Value v) vs) ≡ out → out ≡ value_given 0 o (map (λ v. outcomes.Value v) vs)
given_row o vs out is = sym (ap (λ b. cond b (truth_row 0 o (map (λ v. outcomes.Value v) vs)) outcomes.NoValue) (all_given vs) ∙ is)

module _ (items : List Declaration) where
  -- a term without parts
  leaf : (e : Term) (l : Layer) → layer_of e ≡ l → parts_in l ≡ [] → (kin : Sort) (v : Value) → Gives items l [] (terms.Basis kin) → GivesValue items [] [] l [] (outcomes.Value v) → IsTermOf items kin v e
  leaf e l is alone kin v gives value = record {
    sort = sort_of_layer items e l is [] (terms.Basis kin) (have.none (parts_in l) [] alone refl) gives;
    value = value_of_leaf items [] [] e l is alone (outcomes.Value v) value;
  }

  -- an operator with arguments that are values
  operator : (o : Op) (es : List Term) (kins : List Sort) (vs : List Value) → AreTermsOf items kins vs es → Fits items o (map (λ s. terms.Basis s) kins) → (kin : Sort) → terms.Basis kin ≡ given_by o (map (λ s. terms.Basis s) kins)
      → IsRoundFor items o (first_of (map (λ s. terms.Basis s) kins)) 0 → (v : Value) → truth_row 0 o (map (λ u. outcomes.Value u) vs) ≡ outcomes.Value v → IsTermOf items kin v (applied o es)
  operator o es kins vs all fits kin given round v row = record {
    sort = sort_of_layer items (applied o es) (term_layer.Apply o es) (out_apply (nodes.Apply o es) o es refl) (map (λ s. terms.Basis s) kins) (terms.Basis kin) all.sorts (fits, given);
    value = value_with items [] [] (applied o es) (term_layer.Apply o es) (out_apply (nodes.Apply o es) o es refl) (map (λ u. outcomes.Value u) vs) (outcomes.Value v) all.values
        (0, (map (λ s. terms.Basis s) kins, all.sorts, round), given_row o vs (outcomes.Value v) row);
  }

  dot_term : IsTermOf items sorts.Dot values.Dot (applied op.DotConstant [])
  dot_term = operator op.DotConstant [] [] [] (no_terms items) (record { number = refl; suit = tt }) sorts.Dot refl refl values.Dot refl

  truth_term : (b : Bool) → IsTermOf items sorts.Bool (values.Bool b) (term_of_node (nodes.Bool b))
  truth_term b = leaf (term_of_node (nodes.Bool b)) (term_layer.Bool b) (out_truth (nodes.Bool b) b refl) refl sorts.Bool (values.Bool b) refl refl

  pub number_term : (z : ℤ) (sort : NumberSort) → IsMember (widths_of items) (values.Int z) (number_sort sort) → IsTermOf items sorts.Integer (values.Int z) (term_of_node (nodes.Number z sort))
  number_term z sort member = leaf (term_of_node (nodes.Number z sort)) (term_layer.Number z sort) (out_number (nodes.Number z sort) z sort refl) refl sorts.Integer (values.Int z) (member, refl) refl

  range_term : (z start end : ℤ) → IsMember (widths_of items) (values.Int z) (sorts.Range start end) → IsTermOf items (sorts.Range start end) (values.Int z) (term_of_node (nodes.RangeConst z start end))
  range_term z start end member =
      leaf (term_of_node (nodes.RangeConst z start end)) (term_layer.RangeConst z start end) (out_range (nodes.RangeConst z start end) z start end refl) refl (sorts.Range start end) (values.Int z) (member, refl) refl

  text_term : (t : List ℕ) → IsMember (widths_of items) (values.Text t) sorts.Text → IsTermOf items sorts.Text (values.Text t) (term_of_node (nodes.Text t))
  text_term t member = leaf (term_of_node (nodes.Text t)) (term_layer.Text t) (out_text (nodes.Text t) t refl) refl sorts.Text (values.Text t) (member, refl) refl

  constant_term : AreDistinct (names_of items) → (place index : ℕ) (sort : Sort) (id : List ℕ) → id_of_constant items (record { declaration = place; index = index }) ≡ Some id
      → sort_of_constant items (record { declaration = place; index = index }) ≡ Some sort → IsTermOf items sort (values.Const index) (term_of_node (nodes.UserOp id))
  constant_term distinct place index sort id is_id of_sort =
      let c : ConstantRef = record { declaration = place; index = index } in
      let named : constant_named items id ≡ Some c = ap (option_and_then constant_ref) (declared_found items distinct id (declared.Constant c) is_id) in
      leaf (term_of_node (nodes.UserOp id)) (term_layer.UserOp id) (out_constant (nodes.UserOp id) id refl) refl sort (values.Const index) (c, sort, named, of_sort, refl) (c, named, refl)

  empty_list_term : (item : Sort) → Resolves items (sort_written items item) item → IsTermOf items (sorts.List (kin_of item)) (values.List []) (term_of_node (nodes.EmptyList (sort_written items item)))
  empty_list_term item resolves =
      let e = sort_written items item in
      leaf (term_of_node (nodes.EmptyList e)) (term_layer.EmptyList e) (out_empty_list (nodes.EmptyList e) e refl) refl (sorts.List (kin_of item)) (values.List []) (item, resolves, refl) refl

  tuple_term : (es : List Term) (kin : Sort) (kins : List Sort) (v : Value) (vs : List Value) → AreTermsOf items (kin ∷ kins) (v ∷ vs) es → IsTermOf items (sorts.Product (kin ∷ kins)) (values.Tuple (v ∷ vs)) (applied op.Tuple es)
  tuple_term es kin kins v vs all =
      operator op.Tuple es (kin ∷ kins) (v ∷ vs) all (record { number = one_or_more op.Tuple refl refl (length (map (λ s. terms.Basis s) kins)); suit = all_basis items (kin ∷ kins) }) (sorts.Product (kin ∷ kins))
      (ap (λ ks. terms.Basis (sorts.Product ks)) (sym (kins_back (kin ∷ kins)))) refl (values.Tuple (v ∷ vs)) (ap (λ us. outcomes.Value (values.Tuple us)) (values_back (v ∷ vs)))

  -- ---- lists

  abbrev alike_kins : Sort → List Value → List Sort
  alike_kins kin vs = map (λ v. kin) vs

  one_kin : (kin : Sort) (vs : List Value) (t : TermSort) → Contains (map (λ s. terms.Basis s) (alike_kins kin vs)) t → t ≡ terms.Basis kin
  one_kin kin [] t c = absurd (contains_nil t c)
  one_kin kin (v ∷ vs) t c = by (contains_cases (terms.Basis kin) (map (λ s. terms.Basis s) (alike_kins kin vs)) t c) (one_kin kin vs t)
    where
      by : (terms.Basis kin ≡ t) ⊎ Contains (map (λ s. terms.Basis s) (alike_kins kin vs)) t → (Contains (map (λ s. terms.Basis s) (alike_kins kin vs)) t → t ≡ terms.Basis kin) → t ≡ terms.Basis kin
      by (inl same) more = sym same
      by (inr there) more = more there

  list_term : (es : List Term) (kin : Sort) (v : Value) (vs : List Value) → AreTermsOf items (alike_kins kin (v ∷ vs)) (v ∷ vs) es → IsTermOf items (sorts.List kin) (values.List (v ∷ vs)) (applied op.MakeList es)
  list_term es kin v vs all =
      operator op.MakeList es (alike_kins kin (v ∷ vs)) (v ∷ vs) all
      (record { number = one_or_more op.MakeList refl refl (length (map (λ s. terms.Basis s) (alike_kins kin vs))); suit = (all_basis items (alike_kins kin (v ∷ vs)), λ s t c d. one_kin kin (v ∷ vs) s c ∙ sym (one_kin kin (v ∷ vs) t d)) }) (sorts.List kin)
      refl refl (values.List (v ∷ vs)) (ap (λ us. outcomes.Value (values.List us)) (values_back (v ∷ vs)))

-- ---- by induction on sorts

module _ (items : List Declaration) (distinct : AreDistinct (names_of items)) where
  abbrev HasGround : Sort → Type 0
  HasGround s = NamesDeclared items s → is_sound s ≡ true → (v : Value) → IsMember (widths_of items) v s → IsTermOf items (kin_of s) v (ground_term items s v)

  abbrev Kept : Type 0
  Kept = (s : Sort) × HasGround s

  abbrev sorts_of : List Kept → List Sort
  sorts_of es = map (λ e. e.0) es

  abbrev LayerHasGround : layer.Sort-F Sort → Value → Type 0
  LayerHasGround x v = IsTermOf items (kin_step (map-Sort Sort Sort kin_of x)) v ((writing_layer items (map-Sort Sort Writing (writing_of items) x)).term v)

  -- a sort of this layer
  by_layer : (x : layer.Sort-F Sort) (s : Sort) → roll-Sort x ≡ s
      → (names_declared_layer items (map-Sort Sort Bool (names_declared items) x) ≡ true → is_sound_layer (map-Sort Sort Bool is_sound x) ≡ true → NamesDeclared items s → (v : Value) → IsMember (widths_of items) v s
      → is_member_layer (widths_of items) (map-Sort Sort (Value → Bool) (is_member (widths_of items)) x) (out-Value v) ≡ true → LayerHasGround x v)
      → HasGround (roll-Sort x)
  by_layer x s is f names sound v member =
      let ground = f (sym (fold-roll-Sort Bool (names_declared_layer items) x) ∙ names) (sym (fold-roll-Sort Bool is_sound_layer x) ∙ sound) (subst (NamesDeclared items) is names) v (subst (IsMember (widths_of items) v) is member)
      (sym (member_of_layer (widths_of items) x v) ∙ member) in
      subst (λ kin. IsTermOf items kin v (ground_term items (roll-Sort x) v)) (sym (fold-roll-Sort Sort kin_step x))
      (subst (λ (w : Writing). IsTermOf items (kin_step (map-Sort Sort Sort kin_of x)) v (w.term v)) (sym (writing_at items x)) ground)

  -- a value that is made from what is read of it
  of_value : (kin : Sort) (term : value_layer.Value-F Value → Term) (v made : Value) (x : value_layer.Value-F Value) → v ≡ made → out-Value made ≡ x → IsTermOf items kin made (term x) → IsTermOf items kin v (term (out-Value v))
  of_value kin term v made x is out h = subst (λ u. IsTermOf items kin u (term (out-Value u))) (sym is) (subst (λ y. IsTermOf items kin made (term y)) (sym out) h)

  of_declared : (place : ℕ) (sort : Sort) (v : Value) → IsDeclaredConstant items place sort v → IsTermOf items sort v (term_of_node (nodes.UserOp (constant_id items place (place_of (out-Value v)))))
  of_declared place sort v c =
      of_value sort (λ x. term_of_node (nodes.UserOp (constant_id items place (place_of x)))) v (values.Const c.index) (value_layer.Const c.index) c.is (out-const c.index)
      (by (id_of_constant items (record { declaration = place; index = c.index })) refl c.declared)
    where
      by : (o : Option (List ℕ)) → id_of_constant items (record { declaration = place; index = c.index }) ≡ o → IsSome o → IsTermOf items sort (values.Const c.index) (term_of_node (nodes.UserOp (constant_id items place c.index)))
      by None is there = absurd (false≢true there)
      by (Some id) is there =
          subst (λ name. IsTermOf items sort (values.Const c.index) (term_of_node (nodes.UserOp name))) (sym (ap (λ (o : Option (List ℕ)). unwrap_or o []) is)) (constant_term items distinct place c.index sort id is c.of_sort)

  -- the parts of a tuple
  parts_ground : (es : List Kept) (vs : List Value) → list_all (λ part. part) (map (names_declared items) (sorts_of es)) ≡ true → list_all (λ part. part) (map is_sound (sorts_of es)) ≡ true
      → pass_each (map (is_member (widths_of items)) (sorts_of es)) vs ≡ true → AreTermsOf items (map kin_of (sorts_of es)) vs (terms_of_parts (map (writing_of items) (sorts_of es)) vs)
  parts_ground [] [] names sound h = no_terms items
  parts_ground [] (v ∷ vs) names sound h = absurd (false≢true h)
  parts_ground (e ∷ es) [] names sound h = absurd (false≢true h)
  parts_ground (e ∷ es) (v ∷ vs) names sound h =
      let rest_names = list_all (λ part. part) (map (names_declared items) (sorts_of es)) in
      let rest_sound = list_all (λ part. part) (map is_sound (sorts_of es)) in
      let rest_pass = pass_each (map (is_member (widths_of items)) (sorts_of es)) vs in
      next_term items (kin_of e.0) v (ground_term items e.0 v) (map kin_of (sorts_of es)) vs (terms_of_parts (map (writing_of items) (sorts_of es)) vs)
      (e.1 (and_left (names_declared items e.0) rest_names names) (and_left (is_sound e.0) rest_sound sound) v (and_left (is_member (widths_of items) e.0 v) rest_pass h))
      (parts_ground es vs (and_right (names_declared items e.0) rest_names names) (and_right (is_sound e.0) rest_sound sound) (and_right (is_member (widths_of items) e.0 v) rest_pass h))

  tuple_ground : (es : List Kept) (vs : List Value) → list_all (λ part. part) (map (names_declared items) (sorts_of es)) ≡ true → (nat_lt 0 (length (map is_sound (sorts_of es))) && list_all (λ part. part) (map is_sound (sorts_of es))) ≡ true
      → pass_each (map (is_member (widths_of items)) (sorts_of es)) vs ≡ true → IsTermOf items (sorts.Product (map kin_of (sorts_of es))) (values.Tuple vs) (applied op.Tuple (terms_of_parts (map (writing_of items) (sorts_of es)) vs))
  tuple_ground [] vs names sound h = absurd (false≢true sound)
  tuple_ground (e ∷ es) [] names sound h = absurd (false≢true h)
  tuple_ground (e ∷ es) (v ∷ vs) names sound h =
      tuple_term items (terms_of_parts (map (writing_of items) (sorts_of (e ∷ es))) (v ∷ vs)) (kin_of e.0) (map kin_of (sorts_of es)) v vs
      (parts_ground (e ∷ es) (v ∷ vs) names (and_right (nat_lt 0 (length (map is_sound (sorts_of (e ∷ es))))) (list_all (λ part. part) (map is_sound (sorts_of (e ∷ es)))) sound) h)

  -- the items of a list
  items_ground : (s : Sort) → ((v : Value) → IsMember (widths_of items) v s → IsTermOf items (kin_of s) v (ground_term items s v)) → (vs : List Value) → list_all (is_member (widths_of items) s) vs ≡ true
      → AreTermsOf items (alike_kins items (kin_of s) vs) vs (map (ground_term items s) vs)
  items_ground s f [] h = no_terms items
  items_ground s f (v ∷ vs) h =
      next_term items (kin_of s) v (ground_term items s v) (alike_kins items (kin_of s) vs) vs (map (ground_term items s) vs)
      (f v (and_left (is_member (widths_of items) s v) (list_all (is_member (widths_of items) s) vs) h)) (items_ground s f vs (and_right (is_member (widths_of items) s v) (list_all (is_member (widths_of items) s) vs) h))

  list_ground : (s : Sort) → HasGround s → NamesDeclared items s → is_sound s ≡ true → (vs : List Value) → list_all (is_member (widths_of items) s) vs ≡ true → IsTermOf items (sorts.List (kin_of s)) (values.List vs) (term_of_list (writing_of items s) vs)
  list_ground s f names sound [] h = empty_list_term items s (written_resolves items distinct s names sound)
  list_ground s f names sound (v ∷ vs) h = list_term items (map (ground_term items s) (v ∷ vs)) (kin_of s) v vs (items_ground s (f names sound) (v ∷ vs) h)

  number_ground : (sort : NumberSort) (start end : ℤ) (v : Value) → IsMember (widths_of items) v (number_sort sort) → is_between start end (out-Value v) ≡ true → IsTermOf items sorts.Integer v (term_of_node (nodes.Number (number_of (out-Value v)) sort))
  number_ground sort start end v member h =
      let z = number_is start end v h in
      of_value sorts.Integer (λ x. term_of_node (nodes.Number (number_of x) sort)) v (values.Int z.0) (value_layer.Int z.0) z.2 (out-int z.0) (number_term items z.0 sort (subst (λ u. IsMember (widths_of items) u (number_sort sort)) z.2 member))

  step : (y : layer.Sort-F Kept) → HasGround (roll-Sort (map-Sort Kept Sort (λ e. e.0) y))
  step layer.Dot = by_layer layer.Dot sorts.Dot sorts.rolls-Dot (λ names sound there v member h. subst (λ u. IsTermOf items sorts.Dot u (applied op.DotConstant [])) (sym (dot_is v h)) (dot_term items))
  step layer.Bool = by_layer layer.Bool sorts.Bool sorts.rolls-Bool (λ names sound there v member h.
      let b = truth_is v h in of_value sorts.Bool (λ x. term_of_node (nodes.Bool (truth_of x))) v (values.Bool b.0) (value_layer.Bool b.0) b.1 (out-bool b.0) (truth_term items b.0))
  step (layer.Enumeration place) = by_layer (layer.Enumeration place) (sorts.Enumeration place) (sorts.rolls-Enumeration place) (λ names sound there v member h. of_declared place (sorts.Enumeration place) v (enumeration_member items place v there member))
  step (layer.Partition place) = by_layer (layer.Partition place) (sorts.Partition place) (sorts.rolls-Partition place) (λ names sound there v member h. of_declared place (sorts.Partition place) v (partition_member items place v there member))
  step (layer.Range start end) = by_layer (layer.Range start end) (sorts.Range start end) (sorts.rolls-Range start end) (λ names sound there v member h.
      let z = number_is start end v h in
      of_value (sorts.Range start end) (λ x. term_of_node (nodes.RangeConst (number_of x) start end)) v (values.Int z.0) (value_layer.Int z.0) z.2 (out-int z.0)
      (range_term items z.0 start end (subst (λ u. IsMember (widths_of items) u (sorts.Range start end)) z.2 member)))
  step (layer.Product es) = by_layer (layer.Product (sorts_of es)) (sorts.Product (sorts_of es)) (sorts.rolls-Product (sorts_of es)) (λ names sound there v member h.
      let vs = tuple_is (map (is_member (widths_of items)) (sorts_of es)) v h in
      of_value (sorts.Product (map kin_of (sorts_of es))) (λ x. applied op.Tuple (terms_of_parts (map (writing_of items) (sorts_of es)) (parts_of_tuple x))) v (values.Tuple vs.0) (value_layer.Tuple vs.0) vs.2 (out-tuple vs.0) (tuple_ground es vs.0 names sound vs.1))
  step layer.Integer = by_layer layer.Integer sorts.Integer sorts.rolls-Integer (λ names sound there v member h. number_ground numbers.Integer least_number greatest_number v member h)
  step layer.Natural = by_layer layer.Natural sorts.Natural sorts.rolls-Natural (λ names sound there v member h. number_ground numbers.Natural (pos 0) greatest_number v member h)
  step layer.Positive = by_layer layer.Positive sorts.Positive sorts.rolls-Positive (λ names sound there v member h. number_ground numbers.Positive (pos 1) greatest_number v member h)
  step layer.Text = by_layer layer.Text sorts.Text sorts.rolls-Text (λ names sound there v member h.
      let t = text_at v (out-Value v) refl h in
      of_value sorts.Text (λ x. term_of_node (nodes.Text (text_of x))) v (values.Text t.0) (value_layer.Text t.0) t.1 (out_text_value t.0) (text_term items t.0 (subst (λ u. IsMember (widths_of items) u sorts.Text) t.1 member)))
  step (layer.List e) = by_layer (layer.List e.0) (sorts.List e.0) (sorts.rolls-List e.0) (λ names sound there v member h.
      let vs = list_at (is_member (widths_of items) e.0) v (out-Value v) refl h in
      of_value (sorts.List (kin_of e.0)) (λ x. term_of_list (writing_of items e.0) (items_of x)) v (values.List vs.0) (value_layer.List vs.0) vs.2 (out_list_value vs.0) (list_ground e.0 e.1 names sound vs.0 vs.1))

  -- the ground term of a value has the value, and is of the kin of its sort
  pub ground_is : (s : Sort) → HasGround s
  ground_is = ind-Sort HasGround (λ x y is. subst (λ z. HasGround (roll-Sort z)) is (step y))
