-- What the texts of values are, sort by sort.
use Rattle.std.proofs.Common.{◌≡◌, ℕ, Bool, true, ℤ, pos, int_le, List, [], ◌∷◌, ◌++◌, codes, map, append_assoc, refl, sym, ap, ◌∙◌, subst, arith}
use Rattle.std.specs.List.{flat_map, list_all}
use Rattle.std.specs.declared.result.Result.{Result}
use Rattle.std.proofs.lemmas.Bool.{false≢true}
use Rattle.pn_carriers.proofs.LayerLemmas.{member-enumeration, member-partition, member-product, member-range}
use Rattle.pn_carriers.proofs.ValueLemmas.{dot_is, number_is, out-bool, out-int, out-tuple, truth_is, tuple_is}
use Rattle.pn_carriers.specs.Members.{is_between, is_document_text, is_list_of, is_member, is_member_layer, is_tuple_of, pass_each, least_number, greatest_number}
use Rattle.pn_eval.proofs.KinLemmas.{member_of_layer}
use Rattle.pn_eval.proofs.MemberLemmas.{dot_member, member_is_list, member_is_text, out_list_value, out_text_value, truth_member}
use Rattle.pn_facts.proofs.Truths.{and_left, and_right, and_both}
use Rattle.pn_names.specs.Names.{widths_of}
use Rattle.pn_syntax.specs.declared.declaration.Declaration.{Declaration}
use Rattle.pn_text.specs.Characters.{is_text}
use Rattle.pn_values.specs.declared.sort.Sort.{Sort}
use Rattle.pn_values.specs.declared.sort.Sort.TheFolds.{fold-roll-Sort, map-Sort}
use Rattle.pn_values.specs.declared.sort.Sort.TheOpen as sort_layer
use Rattle.pn_values.specs.declared.sort.Sort.TheVariants as sorts
use Rattle.pn_values.specs.declared.sort.Sort.TheVariants.{rolls-Dot, rolls-Bool, rolls-Integer, rolls-Natural, rolls-Positive}
use Rattle.pn_values.specs.declared.sort.Sort.TheViews.{roll-Sort}
use Rattle.pn_values.specs.declared.value.Value.{Value}
use Rattle.pn_values.specs.declared.value.Value.TheOpen as layer
use Rattle.pn_values.specs.declared.value.Value.TheVariants as values
use Rattle.pn_values.specs.declared.value.Value.TheVariants.{rolls-List as rolls-list-value, rolls-Text as rolls-text-value}
use Rattle.pn_values.specs.declared.value.Value.TheViews.{out-Value, roll-Value, roll-out-Value}
use Rattle.pn_words.proofs.PieceLemmas.{closed_renamed}
use Rattle.pn_words.specs.Languages.{Closed}
use Rattle.pn_mode_text.specs.Readings.{IsConstantText, IsValueText, ReadsOr}
use Rattle.pn_mode_text.specs.Texts.{each_text, list_text, number_text, quoted_text, truth_word, tuple_text, value_text, with_commas}
use Rattle.pn_mode_text.specs.ValueReadings.{IsDotText, IsListRest, IsNumberText, IsOpened, IsTextText, IsTruthText, IsTupleRest, item_texts, mark_before_parts, mark_before_items, part_texts}
use Rattle.pn_mode_text.specs.declared.reading.ReadFault.{ReadFault}
use Rattle.pn_mode_text.proofs.ReadingLemmas.{reads_on}
use Rattle.pn_mode_text.proofs.TextLemmas.{text-bool, text-dot, text-enumeration, text-integer, text-list, text-natural, text-partition, text-positive, text-product, text-range, text-text}

-- two languages have the same words of the same values
pub record HaveSameWords {V : Type 0} (L M : V → List ℕ → Type 0) : Type 0 where
  pub to : (v : V) (t : List ℕ) → L v t → M v t
  pub from : (v : V) (t : List ℕ) → M v t → L v t

pub reads_alike : {V T : Type 0} (L M : V → List ℕ → Type 0) (marks b : List ℕ) (value : T → V × ℕ) (rest : T → List ℕ) (r : Result T ReadFault) → HaveSameWords L M
    → ReadsOr (Closed L marks) b value rest r → ReadsOr (Closed M marks) b value rest r
reads_alike {V} {T} L M marks b value rest r alike h =
    reads_on (Closed M marks) b (Closed L marks) b (λ p. (p.0, p.1)) value rest r (closed_renamed M L (λ v. v) marks b alike.to (λ v w m. (v, refl, alike.from v w m))) h

by_sort : (items : List Declaration) (s t : Sort) (L : Value → List ℕ → Type 0) → s ≡ t → HaveSameWords L (IsValueText items t) → HaveSameWords L (IsValueText items s)
by_sort items s t L is h = subst (λ (r : Sort). HaveSameWords L (IsValueText items r)) (sym is) h

-- the members of a sort, by its layer
members_of : (widths : List ℕ) (x : sort_layer.Sort-F Sort) (s : Sort) → roll-Sort x ≡ s → (v : Value) → is_member widths s v ≡ is_member_layer widths (map-Sort Sort (Value → Bool) (is_member widths) x) (out-Value v)
members_of widths x s e v = ap (λ sort. is_member widths sort v) (sym e) ∙ member_of_layer widths x v

pub dot_alike : (items : List Declaration) (s : Sort) → s ≡ sorts.Dot → HaveSameWords IsDotText (IsValueText items s)
dot_alike items s is = by_sort items s sorts.Dot IsDotText is (record {
  to = λ v t h. (subst (λ (u : Value). is_member w sorts.Dot u ≡ true) (sym h.0) (dot_member w), h.1 ∙ sym (text-dot items v));
  from = λ v t h. (dot_is v (sym (members_of w sort_layer.Dot sorts.Dot rolls-Dot v) ∙ h.0), h.1 ∙ text-dot items v);
})
  where
    w : List ℕ
    w = widths_of items

pub truth_alike : (items : List Declaration) (s : Sort) → s ≡ sorts.Bool → HaveSameWords IsTruthText (IsValueText items s)
truth_alike items s is = by_sort items s sorts.Bool IsTruthText is (record {
  to = λ v t h. (subst (λ (u : Value). is_member w sorts.Bool u ≡ true) (sym h.1) (truth_member w h.0), h.2 ∙ sym (text v h.0 h.1));
  from = λ v t h. (let b = truth_is v (sym (members_of w sort_layer.Bool sorts.Bool rolls-Bool v) ∙ h.0) in (b.0, b.1, h.1 ∙ text v b.0 b.1));
})
  where
    w : List ℕ
    w = widths_of items

    text : (v : Value) (b : Bool) → v ≡ values.Bool b → value_text items sorts.Bool v ≡ truth_word (layer.Bool b)
    text v b e = text-bool items v ∙ ap truth_word (ap out-Value e ∙ out-bool b)

number_alike : (items : List Declaration) (s : Sort) (low high : ℤ) → ((v : Value) → is_member (widths_of items) s v ≡ is_between low high (out-Value v))
    → ((v : Value) → value_text items s v ≡ number_text (out-Value v)) → HaveSameWords (IsNumberText low high) (IsValueText items s)
number_alike items s low high member text = record {
  to = λ v t h. (
    member v ∙ ap (is_between low high) (ap out-Value h.1 ∙ out-int h.0) ∙ and_both (int_le low h.0) (int_le h.0 high) h.2.0 h.2.1,
    h.2.2 ∙ sym (text v ∙ ap number_text (ap out-Value h.1 ∙ out-int h.0)),
  );
  from = λ v t h. (
      let z = number_is low high v (sym (member v) ∙ h.0) in
      (z.0, z.2, (and_left (int_le low z.0) (int_le z.0 high) z.1, and_right (int_le low z.0) (int_le z.0 high) z.1, h.1 ∙ text v ∙ ap number_text (ap out-Value z.2 ∙ out-int z.0)))
      );
}

pub range_alike : (items : List Declaration) (s : Sort) (low high : ℤ) → s ≡ sorts.Range low high → HaveSameWords (IsNumberText low high) (IsValueText items s)
range_alike items s low high is =
    by_sort items s (sorts.Range low high) (IsNumberText low high) is (number_alike items (sorts.Range low high) low high (member-range (widths_of items) low high) (text-range items low high))

pub between_alike : (items : List Declaration) (s : Sort) (low high least most : ℤ) → least ≡ low → most ≡ high → s ≡ sorts.Range low high → HaveSameWords (IsNumberText least most) (IsValueText items s)
between_alike items s low high least most same alike is =
    subst (λ (z : ℤ). HaveSameWords (IsNumberText z most) (IsValueText items s)) (sym same) (subst (λ (z : ℤ). HaveSameWords (IsNumberText low z) (IsValueText items s)) (sym alike) (range_alike items s low high is))

pub integer_alike : (items : List Declaration) (s : Sort) → s ≡ sorts.Integer → HaveSameWords (IsNumberText least_number greatest_number) (IsValueText items s)
integer_alike items s is =
    by_sort items s sorts.Integer (IsNumberText least_number greatest_number) is
    (number_alike items sorts.Integer least_number greatest_number (λ v. members_of (widths_of items) sort_layer.Integer sorts.Integer rolls-Integer v) (text-integer items))

pub natural_alike : (items : List Declaration) (s : Sort) → s ≡ sorts.Natural → HaveSameWords (IsNumberText (pos 0) greatest_number) (IsValueText items s)
natural_alike items s is =
    by_sort items s sorts.Natural (IsNumberText (pos 0) greatest_number) is
    (number_alike items sorts.Natural (pos 0) greatest_number (λ v. members_of (widths_of items) sort_layer.Natural sorts.Natural rolls-Natural v) (text-natural items))

pub positive_alike : (items : List Declaration) (s : Sort) → s ≡ sorts.Positive → HaveSameWords (IsNumberText (pos 1) greatest_number) (IsValueText items s)
positive_alike items s is =
    by_sort items s sorts.Positive (IsNumberText (pos 1) greatest_number) is
    (number_alike items sorts.Positive (pos 1) greatest_number (λ v. members_of (widths_of items) sort_layer.Positive sorts.Positive rolls-Positive v) (text-positive items))

pub enumeration_alike : (items : List Declaration) (s : Sort) (place : ℕ) → s ≡ sorts.Enumeration place → HaveSameWords (IsConstantText items place) (IsValueText items s)
enumeration_alike items s place is = by_sort items s (sorts.Enumeration place) (IsConstantText items place) is (record {
  to = λ v t h. (member-enumeration (widths_of items) place v ∙ h.0, h.1 ∙ sym (text-enumeration items place v));
  from = λ v t h. (sym (member-enumeration (widths_of items) place v) ∙ h.0, h.1 ∙ text-enumeration items place v);
})

pub partition_alike : (items : List Declaration) (s : Sort) (place : ℕ) → s ≡ sorts.Partition place → HaveSameWords (IsConstantText items place) (IsValueText items s)
partition_alike items s place is = by_sort items s (sorts.Partition place) (IsConstantText items place) is (record {
  to = λ v t h. (member-partition (widths_of items) place v ∙ h.0, h.1 ∙ sym (text-partition items place v));
  from = λ v t h. (sym (member-partition (widths_of items) place v) ∙ h.0, h.1 ∙ text-partition items place v);
})

text_is_at : (v : Value) (x : layer.Value-F Value) → out-Value v ≡ x → is_document_text x ≡ true → (u : List ℕ) × (is_text u ≡ true) × (v ≡ values.Text u)
text_is_at v layer.Dot is h = absurd (false≢true h)
text_is_at v (layer.Bool b) is h = absurd (false≢true h)
text_is_at v (layer.Const c) is h = absurd (false≢true h)
text_is_at v (layer.Int z) is h = absurd (false≢true h)
text_is_at v (layer.Text u) is h = (u, h, sym (roll-out-Value v) ∙ ap roll-Value is ∙ rolls-text-value u)
text_is_at v (layer.Tuple vs) is h = absurd (false≢true h)
text_is_at v (layer.List vs) is h = absurd (false≢true h)

list_is_at : (test : Value → Bool) (v : Value) (x : layer.Value-F Value) → out-Value v ≡ x → is_list_of test x ≡ true → (vs : List Value) × (list_all test vs ≡ true) × (v ≡ values.List vs)
list_is_at test v layer.Dot is h = absurd (false≢true h)
list_is_at test v (layer.Bool b) is h = absurd (false≢true h)
list_is_at test v (layer.Const c) is h = absurd (false≢true h)
list_is_at test v (layer.Int z) is h = absurd (false≢true h)
list_is_at test v (layer.Text t) is h = absurd (false≢true h)
list_is_at test v (layer.Tuple vs) is h = absurd (false≢true h)
list_is_at test v (layer.List vs) is h = (vs, h, sym (roll-out-Value v) ∙ ap roll-Value is ∙ rolls-list-value vs)

pub text_alike : (items : List Declaration) (s : Sort) → s ≡ sorts.Text → HaveSameWords IsTextText (IsValueText items s)
text_alike items s is = by_sort items s sorts.Text IsTextText is (record {
  to = λ v t h. (member_is_text (widths_of items) v ∙ ap is_document_text (ap out-Value h.1 ∙ out_text_value h.0) ∙ h.2.0, h.2.1 ∙ sym (text v h.0 h.1));
  from = λ v t h. (let u = text_is_at v (out-Value v) refl (sym (member_is_text (widths_of items) v) ∙ h.0) in (u.0, u.2, (u.1, h.1 ∙ text v u.0 u.2)));
})
  where
    text : (v : Value) (u : List ℕ) → v ≡ values.Text u → value_text items sorts.Text v ≡ quoted_text (layer.Text u)
    text v u e = text-text items v ∙ ap quoted_text (ap out-Value e ∙ out_text_value u)

-- ---- tuples

parts_joined : (items : List Declaration) (ss : List Sort) (vs : List Value) → pass_each (map (is_member (widths_of items)) ss) vs ≡ true
    → mark_before_parts ss ∷ part_texts items ss vs ≡ flat_map (λ next. codes "," ++ next) (each_text (map (value_text items) ss) vs) ++ codes ")"
parts_joined items [] [] h = refl
parts_joined items [] (v ∷ vs) h = absurd (false≢true h)
parts_joined items (s ∷ ss) [] h = absurd (false≢true h)
parts_joined items (s ∷ ss) (v ∷ vs) h =
    let rest = flat_map (λ next. codes "," ++ next) (each_text (map (value_text items) ss) vs) in
    ap (λ l. 44 ∷ (value_text items s v ++ l)) (parts_joined items ss vs (and_right (is_member (widths_of items) s v) (pass_each (map (is_member (widths_of items)) ss) vs) h))
    ∙ sym (append_assoc (44 ∷ value_text items s v) rest (codes ")"))

some_parts_joined : (items : List Declaration) (s : Sort) (ss : List Sort) (vs : List Value) → pass_each (map (is_member (widths_of items)) (s ∷ ss)) vs ≡ true
    → part_texts items (s ∷ ss) vs ≡ with_commas (each_text (map (value_text items) (s ∷ ss)) vs) ++ codes ")"
some_parts_joined items s ss [] h = absurd (false≢true h)
some_parts_joined items s ss (v ∷ vs) h =
    let rest = flat_map (λ next. codes "," ++ next) (each_text (map (value_text items) ss) vs) in
    ap (λ l. value_text items s v ++ l) (parts_joined items ss vs (and_right (is_member (widths_of items) s v) (pass_each (map (is_member (widths_of items)) ss) vs) h))
    ∙ sym (append_assoc (value_text items s v) rest (codes ")"))

tuple_rest_is : (items : List Declaration) (ss : List Sort) (vs : List Value) (w : List ℕ) → IsTupleRest items ss vs w
    → (pass_each (map (is_member (widths_of items)) ss) vs ≡ true) × (w ≡ with_commas (each_text (map (value_text items) ss) vs) ++ codes ")")
tuple_rest_is items [] vs w (none, is) = (subst (λ (us : List Value). pass_each [] us ≡ true) (sym none) refl, is)
tuple_rest_is items (s ∷ ss) vs w (pass, is) = (pass, is ∙ some_parts_joined items s ss vs pass)

is_tuple_rest : (items : List Declaration) (ss : List Sort) (vs : List Value) (w : List ℕ) → pass_each (map (is_member (widths_of items)) ss) vs ≡ true
    → w ≡ with_commas (each_text (map (value_text items) ss) vs) ++ codes ")" → IsTupleRest items ss vs w
is_tuple_rest items [] [] w pass is = (refl, is)
is_tuple_rest items [] (v ∷ vs) w pass is = absurd (false≢true pass)
is_tuple_rest items (s ∷ ss) vs w pass is = (pass, is ∙ sym (some_parts_joined items s ss vs pass))

pub tuple_alike : (items : List Declaration) (s : Sort) (ss : List Sort) → s ≡ sorts.Product ss → HaveSameWords (IsOpened (codes "(") values.Tuple (IsTupleRest items ss)) (IsValueText items s)
tuple_alike items s ss is = by_sort items s (sorts.Product ss) (IsOpened (codes "(") values.Tuple (IsTupleRest items ss)) is (record {
  to = λ v t h. (
      let k = tuple_rest_is items ss h.0 h.2 h.4 in
      (member-product (widths_of items) ss v ∙ ap (is_tuple_of tests) (ap out-Value h.1 ∙ out-tuple h.0) ∙ k.0, h.3 ∙ ap (λ l. codes "(" ++ l) k.1 ∙ sym (text v h.0 h.1))
      );
  from = λ v t h. (
      let vs = tuple_is tests v (sym (member-product (widths_of items) ss v) ∙ h.0) in
      let w = with_commas (each_text (map (value_text items) ss) vs.0) ++ codes ")" in
      (vs.0, vs.2, w, h.1 ∙ text v vs.0 vs.2, is_tuple_rest items ss vs.0 w vs.1 refl)
      );
})
  where
    tests : List (Value → Bool)
    tests = map (is_member (widths_of items)) ss

    text : (v : Value) (vs : List Value) → v ≡ values.Tuple vs → value_text items (sorts.Product ss) v ≡ tuple_text (map (value_text items) ss) (layer.Tuple vs)
    text v vs e = text-product items ss v ∙ ap (tuple_text (map (value_text items) ss)) (ap out-Value e ∙ out-tuple vs)

-- ---- lists

items_joined : (items : List Declaration) (s : Sort) (vs : List Value)
    → mark_before_items vs ∷ item_texts items s vs ≡ flat_map (λ next. codes "," ++ next) (map (value_text items s) vs) ++ codes "]"
items_joined items s [] = refl
items_joined items s (v ∷ vs) =
    let rest = flat_map (λ next. codes "," ++ next) (map (value_text items s) vs) in
    ap (λ l. 44 ∷ (value_text items s v ++ l)) (items_joined items s vs) ∙ sym (append_assoc (44 ∷ value_text items s v) rest (codes "]"))

some_items_joined : (items : List Declaration) (s : Sort) (v : Value) (vs : List Value) → item_texts items s (v ∷ vs) ≡ with_commas (map (value_text items s) (v ∷ vs)) ++ codes "]"
some_items_joined items s v vs =
    let rest = flat_map (λ next. codes "," ++ next) (map (value_text items s) vs) in
    ap (λ l. value_text items s v ++ l) (items_joined items s vs) ∙ sym (append_assoc (value_text items s v) rest (codes "]"))

list_rest_is : (items : List Declaration) (s : Sort) (vs : List Value) (w : List ℕ) → IsListRest items s vs w
    → (list_all (is_member (widths_of items) s) vs ≡ true) × (w ≡ with_commas (map (value_text items s) vs) ++ codes "]")
list_rest_is items s [] w is = (refl, is)
list_rest_is items s (v ∷ vs) w (some, pass, is) = (pass, is ∙ some_items_joined items s v vs)

is_list_rest : (items : List Declaration) (s : Sort) (vs : List Value) (w : List ℕ) → list_all (is_member (widths_of items) s) vs ≡ true
    → w ≡ with_commas (map (value_text items s) vs) ++ codes "]" → IsListRest items s vs w
is_list_rest items s [] w pass is = is
is_list_rest items s (v ∷ vs) w pass is = (omega arith, pass, is ∙ sym (some_items_joined items s v vs))

pub list_alike : (items : List Declaration) (s item : Sort) → s ≡ sorts.List item → HaveSameWords (IsOpened (codes "[") values.List (IsListRest items item)) (IsValueText items s)
list_alike items s item is = by_sort items s (sorts.List item) (IsOpened (codes "[") values.List (IsListRest items item)) is (record {
  to = λ v t h. (
      let k = list_rest_is items item h.0 h.2 h.4 in
      (member_is_list (widths_of items) item v ∙ ap (is_list_of test) (ap out-Value h.1 ∙ out_list_value h.0) ∙ k.0, h.3 ∙ ap (λ l. codes "[" ++ l) k.1 ∙ sym (text v h.0 h.1))
      );
  from = λ v t h. (
      let vs = list_is_at test v (out-Value v) refl (sym (member_is_list (widths_of items) item v) ∙ h.0) in
      let w = with_commas (map (value_text items item) vs.0) ++ codes "]" in
      (vs.0, vs.2, w, h.1 ∙ text v vs.0 vs.2, is_list_rest items item vs.0 w vs.1 refl)
      );
})
  where
    test : Value → Bool
    test = is_member (widths_of items) item

    text : (v : Value) (vs : List Value) → v ≡ values.List vs → value_text items (sorts.List item) v ≡ list_text (value_text items item) (layer.List vs)
    text v vs e = text-list items item v ∙ ap (list_text (value_text items item)) (ap out-Value e ∙ out_list_value vs)
