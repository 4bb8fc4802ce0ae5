-- The ground term of a value, and that of a multiset, can be written.
use Rattle.std.proofs.Common.{◌≡◌, ℕ, zero, suc, ◌<◌, ◌≤◌, Bool, true, false, ◌&&◌, not, int_lt, int_le, nat_lt, ℤ, pos, negsuc, List, [], ◌∷◌, map, length, Some, None, refl, sym, ap, subst, ◌∙◌, arith}
use Rattle.std.specs.List.{AllByRecursion, Contains, list_all}
use Rattle.std.proofs.lemmas.Bool.{false≢true}
use Rattle.std.proofs.lemmas.Bool.Decides.{nat_tests}
use Rattle.pn_bag.specs.Counts.{Every}
use Rattle.pn_bag.specs.declared.TheConstants.{MAX_COUNT}
use Rattle.pn_carriers.proofs.ValueLemmas.{number_is, out-int, out-tuple, tuple_is}
use Rattle.pn_carriers.specs.Members.{IsMember, greatest_number, is_between, is_document_text, is_member, is_member_layer, least_number, pass_each}
use Rattle.pn_eval.proofs.KinLemmas.{member_of_layer}
use Rattle.pn_eval.proofs.MemberLemmas.{out_list_value}
use Rattle.pn_facts.proofs.Contained.{contains_first, contains_next}
use Rattle.pn_facts.proofs.Truths.{and_both, and_left, and_right}
use Rattle.pn_ids.specs.Names.{AreDistinct}
use Rattle.pn_names.specs.Names.{names_of, widths_of}
use Rattle.pn_operations.specs.Outcomes.{items_of, number_of, place_of, text_of, truth_of}
use Rattle.pn_operators.specs.declared.kind.Kind.{Kind}
use Rattle.pn_operators.specs.declared.kind.Kind.TheVariants as kinds
use Rattle.pn_operators.specs.declared.op.Op.TheVariants as op
use Rattle.pn_resolve.specs.Naming.{NamesDeclared, names_declared, names_declared_layer}
use Rattle.pn_resolve.specs.Standing.{IsBig}
use Rattle.pn_round_trip.proofs.WritableSorts.{HasSorts}
use Rattle.pn_shape.specs.Rules.{argument_slots, slot_of}
use Rattle.pn_shape.specs.Spots.{tag_of}
use Rattle.pn_syntax.specs.declared.declaration.Declaration.{Declaration}
use Rattle.pn_syntax.specs.declared.term.NumberSort.{NumberSort}
use Rattle.pn_syntax.specs.declared.term.NumberSort.TheVariants as numbers
use Rattle.pn_syntax.specs.declared.term.Term.{Term}
use Rattle.pn_syntax.specs.declared.term.TermNode.TheVariants as nodes
use Rattle.pn_text.specs.Characters.{is_text}
use Rattle.pn_values.specs.Sizes.{depth_of, depth_step, greatest}
use Rattle.pn_values.specs.declared.sort.Sort.{Sort}
use Rattle.pn_values.specs.declared.sort.Sort.TheFolds.{fold-roll-Sort, ind-Sort, map-Sort}
use Rattle.pn_values.specs.declared.sort.Sort.TheOpen as layer
use Rattle.pn_values.specs.declared.sort.Sort.TheVariants as sorts
use Rattle.pn_values.specs.declared.sort.Sort.TheViews.{roll-Sort}
use Rattle.pn_values.specs.declared.value.Value.{Value}
use Rattle.pn_values.specs.declared.value.Value.TheOpen as value_layer
use Rattle.pn_values.specs.declared.value.Value.TheViews.{out-Value}
use Rattle.pn_marked.proofs.GroundLemmas.{list_at}
use Rattle.pn_marked.proofs.WritingLemmas.{writing_at, written_resolves}
use Rattle.pn_marked.specs.Ground.{Writing, applied, constant_id, ground_term, is_sound, is_sound_layer, parts_of_tuple, sort_written, term_of_list, term_of_node, terms_of_parts, writing_layer, writing_of}
use Rattle.pn_marked.specs.Marked.{bag_term, so_often}
use Rattle.pn_documents.specs.Fit.{HasTextIds, IsFitSort, is_high, is_number, may_stand, may_stand_layer}
use Rattle.pn_documents.proofs.PlainLemmas.{IsPlain, IsPlainBy, IsPlainSort, IsReadAgain, TakesSo, constant, dot, empty_list, number, operator, range, text, truth}
use Rattle.pn_documents.proofs.SortFaultLemmas.{item_small, part_small, sound_sort, within_limits}
use Rattle.pn_documents.proofs.SortPlainLemmas.{number_back, sort_is_written}

-- ---- operators with arguments in one place

high_has_sorts : (k : Kind) → is_high k ≡ true → k ≡ kinds.HighLevel
high_has_sorts kinds.PtNet high = absurd cc
high_has_sorts kinds.Symmetric high = absurd cc
high_has_sorts kinds.HighLevel high = refl

takes_tuple : (k : Kind) → HasSorts k → (n : ℕ) → 1 ≤ n → TakesSo k op.Tuple n
unfolding tag_of Rattle.pn_shape.specs.Rules.rule_for
takes_tuple kinds.PtNet had n some = absurd cc
takes_tuple kinds.Symmetric had n some = record { tagged = refl; named = refl; least = 1; most = None; slots = refl; enough = some; few = tt }
takes_tuple kinds.HighLevel had n some = record { tagged = refl; named = refl; least = 1; most = None; slots = refl; enough = some; few = tt }

takes_sum : (k : Kind) → HasSorts k → (n : ℕ) → 1 ≤ n → TakesSo k op.Add n
unfolding tag_of Rattle.pn_shape.specs.Rules.rule_for
takes_sum kinds.PtNet had n some = absurd cc
takes_sum kinds.Symmetric had n some = record { tagged = refl; named = refl; least = 1; most = None; slots = refl; enough = some; few = tt }
takes_sum kinds.HighLevel had n some = record { tagged = refl; named = refl; least = 1; most = None; slots = refl; enough = some; few = tt }

takes_count : (k : Kind) → HasSorts k → TakesSo k op.NumberOf 2
unfolding tag_of Rattle.pn_shape.specs.Rules.rule_for
takes_count kinds.PtNet had = absurd cc
takes_count kinds.Symmetric had = record { tagged = refl; named = refl; least = 1; most = Some 2; slots = refl; enough = omega arith; few = omega arith }
takes_count kinds.HighLevel had = record { tagged = refl; named = refl; least = 1; most = Some 2; slots = refl; enough = omega arith; few = omega arith }

takes_list : (n : ℕ) → 1 ≤ n → TakesSo kinds.HighLevel op.MakeList n
unfolding tag_of Rattle.pn_shape.specs.Rules.rule_for
takes_list n some = record { tagged = refl; named = refl; least = 1; most = None; slots = refl; enough = some; few = tt }

-- ---- numbers

-- a number between two of 64 bits is one
between : (start end z : ℤ) → is_number start ≡ true → is_number end ≡ true → (int_le start z && int_le z end) ≡ true → is_number z ≡ true
between start (pos m) (pos n) first last h = and_both true (int_le (pos n) greatest_number) refl (least (and_right (int_le start (pos n)) (int_le (pos n) (pos m)) h) (and_right (int_le least_number (pos m)) (int_le (pos m) greatest_number) last))
  where
    least : int_le (pos n) (pos m) ≡ true → int_le (pos m) greatest_number ≡ true → int_le (pos n) greatest_number ≡ true
    least low high = grind (arith, nat_tests)
between start (negsuc m) (pos n) first last h = absurd (false≢true (and_right (int_le start (pos n)) false h))
between (negsuc m) end (negsuc n) first last h = and_both (int_le least_number (negsuc n)) true (most (and_left (int_le (negsuc m) (negsuc n)) (int_le (negsuc n) end) h) (and_left (int_le least_number (negsuc m)) (int_le (negsuc m) greatest_number) first)) refl
  where
    most : int_le (negsuc m) (negsuc n) ≡ true → int_le least_number (negsuc m) ≡ true → int_le least_number (negsuc n) ≡ true
    most low high = grind (arith, nat_tests)
between (pos m) end (negsuc n) first last h = absurd (false≢true (and_left false (int_le (negsuc n) end) h))

zero_is_number : is_number (pos 0) ≡ true
zero_is_number = refl

one_is_number : is_number (pos 1) ≡ true
one_is_number = refl

least_is_number : is_number least_number ≡ true
least_is_number = refl

greatest_is_number : is_number greatest_number ≡ true
greatest_is_number = refl

small_depth : (s : Sort) → (IsBig s → ⊥) → depth_of s ≤ 32
small_depth s small = (within_limits s small).depth

text_right : (x : value_layer.Value-F Value) → is_document_text x ≡ true → is_text (text_of x) ≡ true
text_right (value_layer.Text t) h = h
text_right value_layer.Dot h = absurd (false≢true h)
text_right (value_layer.Bool b) h = absurd (false≢true h)
text_right (value_layer.Const c) h = absurd (false≢true h)
text_right (value_layer.Int z) h = absurd (false≢true h)
text_right (value_layer.Tuple vs) h = absurd (false≢true h)
text_right (value_layer.List vs) h = absurd (false≢true h)

-- ---- by induction on sorts

module _ (k : Kind) (items : List Declaration) (had : HasSorts k) (distinct : AreDistinct (names_of items)) (ids : HasTextIds items) where
  plain_by : (n : ℕ) (e : Term) → IsPlainBy k items (IsPlain k items n) e → IsPlain k items (suc n) e
  unfolding IsPlain
  plain_by n e by_layer = by_layer

  some_level : (n : ℕ) (e : Term) → 1 ≤ n → ((m : ℕ) → IsPlainBy k items (IsPlain k items m) e) → IsPlain k items n e
  some_level zero e some f = absurd (omega (arith, some))
  some_level (suc m) e some f = plain_by m e (f m)

  abbrev HasPlain : Sort → Type 0
  HasPlain s = (n : ℕ) → depth_of s ≤ n → NamesDeclared items s → may_stand k s ≡ true → is_sound s ≡ true → (IsBig s → ⊥) → (v : Value) → IsMember (widths_of items) v s → IsPlain k items n (ground_term items s v)

  abbrev Kept : Type 0
  Kept = (s : Sort) × HasPlain s

  abbrev sorts_of : List Kept → List Sort
  sorts_of es = map (λ e. e.0) es

  by_layer : (x : layer.Sort-F Sort) → ((n : ℕ) → depth_step (map-Sort Sort ℕ depth_of x) ≤ n → names_declared_layer items (map-Sort Sort Bool (names_declared items) x) ≡ true → may_stand_layer k (map-Sort Sort Bool (may_stand k) x) ≡ true
      → is_sound_layer (map-Sort Sort Bool is_sound x) ≡ true → (IsBig (roll-Sort x) → ⊥) → (v : Value) → is_member_layer (widths_of items) (map-Sort Sort (Value → Bool) (is_member (widths_of items)) x) (out-Value v) ≡ true
      → IsPlain k items n ((writing_layer items (map-Sort Sort Writing (writing_of items) x)).term v)) → HasPlain (roll-Sort x)
  by_layer x f n deep names may sound small v member =
      subst (λ (w : Writing). IsPlain k items n (w.term v)) (sym (writing_at items x))
      (f n (subst (λ d. d ≤ n) (fold-roll-Sort ℕ depth_step x) deep) (sym (fold-roll-Sort Bool (names_declared_layer items) x) ∙ names) (sym (fold-roll-Sort Bool (may_stand_layer k) x) ∙ may)
      (sym (fold-roll-Sort Bool is_sound_layer x) ∙ sound) small v (sym (member_of_layer (widths_of items) x v) ∙ member))

  -- a number
  number_again : (start end : ℤ) (v : Value) → is_number start ≡ true → is_number end ≡ true → is_between start end (out-Value v) ≡ true → IsReadAgain (number_of (out-Value v))
  number_again start end v first last h =
      let z = number_is start end v h in
      subst IsReadAgain (sym (ap (λ u. number_of (out-Value u)) z.2 ∙ ap number_of (out-int z.0))) (number_back z.0 (between start end z.0 first last z.1))

  number_plain : (n : ℕ) (start end : ℤ) (sort : NumberSort) (v : Value) → 1 ≤ n → is_number start ≡ true → is_number end ≡ true → is_between start end (out-Value v) ≡ true → IsPlain k items n (term_of_node (nodes.Number (number_of (out-Value v)) sort))
  number_plain n start end sort v some first last h =
      some_level n (term_of_node (nodes.Number (number_of (out-Value v)) sort)) some (λ m. number (number_of (out-Value v)) sort (number_again start end v first last h) refl)

  not_empty : (start end : ℤ) → not (int_lt end start) ≡ true → int_lt end start ≡ false
  not_empty start end h = by (int_lt end start) h
    where
      by : (b : Bool) → not b ≡ true → b ≡ false
      by true bad = absurd (false≢true bad)
      by false good = refl

  -- the parts of a tuple
  parts_plain : (n : ℕ) (es : List Kept) (vs : List Value) → greatest (map depth_of (sorts_of es)) ≤ n → list_all (λ part. part) (map (names_declared items) (sorts_of es)) ≡ true → list_all (λ part. part) (map (may_stand k) (sorts_of es)) ≡ true
      → list_all (λ part. part) (map is_sound (sorts_of es)) ≡ true → ((s : Sort) → Contains (sorts_of es) s → IsBig s → ⊥) → pass_each (map (is_member (widths_of items)) (sorts_of es)) vs ≡ true
      → AllByRecursion (IsPlain k items n) (terms_of_parts (map (writing_of items) (sorts_of es)) vs)
  parts_plain n [] [] deep names may sound small h = tt
  parts_plain n [] (v ∷ vs) deep names may sound small h = absurd (false≢true h)
  parts_plain n (e ∷ es) [] deep names may sound small h = absurd (false≢true h)
  parts_plain n (e ∷ es) (v ∷ vs) deep names may sound small h =
      let rest_names = list_all (λ part. part) (map (names_declared items) (sorts_of es)) in
      let rest_may = list_all (λ part. part) (map (may_stand k) (sorts_of es)) in
      let rest_sound = list_all (λ part. part) (map is_sound (sorts_of es)) in
      let rest_pass = pass_each (map (is_member (widths_of items)) (sorts_of es)) vs in (
        e.1 n (omega (arith, deep)) (and_left (names_declared items e.0) rest_names names) (and_left (may_stand k e.0) rest_may may) (and_left (is_sound e.0) rest_sound sound) (small e.0 (contains_first e.0 (sorts_of es))) v (and_left (is_member (widths_of items) e.0 v) rest_pass h),
        parts_plain n es vs (omega (arith, deep)) (and_right (names_declared items e.0) rest_names names) (and_right (may_stand k e.0) rest_may may) (and_right (is_sound e.0) rest_sound sound) (λ s c. small s (contains_next e.0 (sorts_of es) s c)) (and_right (is_member (widths_of items) e.0 v) rest_pass h),
      )

  tuple_plain : (n : ℕ) (es : List Kept) (vs : List Value) → suc (greatest (map depth_of (sorts_of es))) ≤ n → list_all (λ part. part) (map (names_declared items) (sorts_of es)) ≡ true → list_all (λ part. part) (map (may_stand k) (sorts_of es)) ≡ true
      → (nat_lt 0 (length (map is_sound (sorts_of es))) && list_all (λ part. part) (map is_sound (sorts_of es))) ≡ true → (IsBig (sorts.Product (sorts_of es)) → ⊥) → pass_each (map (is_member (widths_of items)) (sorts_of es)) vs ≡ true
      → IsPlain k items n (applied op.Tuple (terms_of_parts (map (writing_of items) (sorts_of es)) vs))
  tuple_plain n [] vs deep names may sound small h = absurd (false≢true sound)
  tuple_plain n (e ∷ es) [] deep names may sound small h = absurd (false≢true h)
  tuple_plain zero (e ∷ es) (v ∷ vs) deep names may sound small h = absurd (omega (arith, deep))
  tuple_plain (suc n) (e ∷ es) (v ∷ vs) deep names may sound small h =
      let args = terms_of_parts (map (writing_of items) (sorts_of (e ∷ es))) (v ∷ vs) in
      plain_by n (applied op.Tuple args)
      (operator op.Tuple args (takes_tuple k had (length args) (omega arith))
      (parts_plain n (e ∷ es) (v ∷ vs) (omega (arith, deep)) names may (and_right (nat_lt 0 (length (map is_sound (sorts_of (e ∷ es))))) (list_all (λ part. part) (map is_sound (sorts_of (e ∷ es)))) sound)
      (part_small (sorts_of (e ∷ es)) small) h) refl)

  -- the items of a list
  items_plain : (n : ℕ) (s : Sort) → ((v : Value) → IsMember (widths_of items) v s → IsPlain k items n (ground_term items s v)) → (vs : List Value) → list_all (is_member (widths_of items) s) vs ≡ true → AllByRecursion (IsPlain k items n) (map (ground_term items s) vs)
  items_plain n s f [] h = tt
  items_plain n s f (v ∷ vs) h =
      (f v (and_left (is_member (widths_of items) s v) (list_all (is_member (widths_of items) s) vs) h), items_plain n s f vs (and_right (is_member (widths_of items) s v) (list_all (is_member (widths_of items) s) vs) h))

  -- the sort of an empty list
  sort_plain : (s : Sort) → k ≡ kinds.HighLevel → NamesDeclared items s → may_stand k s ≡ true → is_sound s ≡ true → (IsBig s → ⊥) → IsPlainSort k items (sort_written items s)
  sort_plain s high names may sound small =
      let is = sort_is_written items ids s 32 (small_depth s small) (ap (λ q. may_stand q s) (sym high) ∙ may) sound in
      subst (λ q. IsPlainSort q items (sort_written items s)) (sym high) (record {
        shaped = is.shaped;
        reads = is.reads;
        levels = is.levels;
        sound = λ f. sound_sort items (sort_written items s) s f (written_resolves items distinct s names sound) small;
      })

  list_plain : (n : ℕ) (e : Kept) → suc (depth_of e.0) ≤ n → NamesDeclared items e.0 → (is_high k && may_stand k e.0) ≡ true → is_sound e.0 ≡ true → (IsBig (sorts.List e.0) → ⊥) → (vs : List Value) → list_all (is_member (widths_of items) e.0) vs ≡ true
      → IsPlain k items n (term_of_list (writing_of items e.0) vs)
  list_plain zero e deep names may sound small vs h = absurd (omega (arith, deep))
  list_plain (suc n) e deep names may sound small [] h =
      let high = high_has_sorts k (and_left (is_high k) (may_stand k e.0) may) in
      plain_by n (term_of_node (nodes.EmptyList (sort_written items e.0)))
      (empty_list (sort_written items e.0) high (sort_plain e.0 high names (and_right (is_high k) (may_stand k e.0) may) sound (item_small e.0 small)) refl)
  list_plain (suc n) e deep names may sound small (v ∷ vs) h =
      let high = high_has_sorts k (and_left (is_high k) (may_stand k e.0) may) in
      let args = map (ground_term items e.0) (v ∷ vs) in
      plain_by n (applied op.MakeList args)
      (operator op.MakeList args (subst (λ q. TakesSo q op.MakeList (length args)) (sym high) (takes_list (length args) (omega arith)))
      (items_plain n e.0 (e.1 n (omega (arith, deep)) names (and_right (is_high k) (may_stand k e.0) may) sound (item_small e.0 small)) (v ∷ vs) h) refl)

  step : (y : layer.Sort-F Kept) → HasPlain (roll-Sort (map-Sort Kept Sort (λ e. e.0) y))
  step layer.Dot = by_layer layer.Dot (λ n deep names may sound small v h. some_level n (applied op.DotConstant []) deep (λ m. dot refl))
  step layer.Bool = by_layer layer.Bool (λ n deep names may sound small v h. some_level n (term_of_node (nodes.Bool (truth_of (out-Value v)))) deep (λ m. truth (truth_of (out-Value v)) refl))
  step (layer.Enumeration place) = by_layer (layer.Enumeration place) (λ n deep names may sound small v h.
      some_level n (term_of_node (nodes.UserOp (constant_id items place (place_of (out-Value v))))) deep (λ m. constant (constant_id items place (place_of (out-Value v))) (ids.constants place (place_of (out-Value v))) refl))
  step (layer.Partition place) = by_layer (layer.Partition place) (λ n deep names may sound small v h.
      some_level n (term_of_node (nodes.UserOp (constant_id items place (place_of (out-Value v))))) deep (λ m. constant (constant_id items place (place_of (out-Value v))) (ids.constants place (place_of (out-Value v))) refl))
  step (layer.Range start end) = by_layer (layer.Range start end) (λ n deep names may sound small v h.
      let first = and_left (is_number start) (is_number end) may in
      let last = and_right (is_number start) (is_number end) may in
      some_level n (term_of_node (nodes.RangeConst (number_of (out-Value v)) start end)) deep
      (λ m. range (number_of (out-Value v)) start end (number_again start end v first last h) (number_back start first) (number_back end last) (not_empty start end sound) refl))
  step (layer.Product es) = by_layer (layer.Product (sorts_of es)) (λ n deep names may sound small v h.
      let vs = tuple_is (map (is_member (widths_of items)) (sorts_of es)) v h in
      subst (λ us. IsPlain k items n (applied op.Tuple (terms_of_parts (map (writing_of items) (sorts_of es)) us))) (sym (ap (λ u. parts_of_tuple (out-Value u)) vs.2 ∙ ap parts_of_tuple (out-tuple vs.0)))
      (tuple_plain n es vs.0 deep names may sound (λ big. small (subst IsBig (sym (sorts.rolls-Product (sorts_of es))) big)) vs.1))
  step layer.Integer = by_layer layer.Integer (λ n deep names may sound small v h. number_plain n least_number greatest_number numbers.Integer v deep least_is_number greatest_is_number h)
  step layer.Natural = by_layer layer.Natural (λ n deep names may sound small v h. number_plain n (pos 0) greatest_number numbers.Natural v deep zero_is_number greatest_is_number h)
  step layer.Positive = by_layer layer.Positive (λ n deep names may sound small v h. number_plain n (pos 1) greatest_number numbers.Positive v deep one_is_number greatest_is_number h)
  step layer.Text = by_layer layer.Text (λ n deep names may sound small v h.
      some_level n (term_of_node (nodes.Text (text_of (out-Value v)))) deep (λ m. text (text_of (out-Value v)) (text_right (out-Value v) h) (high_has_sorts k may) refl))
  step (layer.List e) = by_layer (layer.List e.0) (λ n deep names may sound small v h.
      let vs = list_at (is_member (widths_of items) e.0) v (out-Value v) refl h in
      subst (λ us. IsPlain k items n (term_of_list (writing_of items e.0) us)) (sym (ap (λ u. items_of (out-Value u)) vs.2 ∙ ap items_of (out_list_value vs.0)))
      (list_plain n e deep names may sound (λ big. small (subst IsBig (sym (sorts.rolls-List e.0)) big)) vs.0 vs.1))

  ground_plain : (s : Sort) → HasPlain s
  ground_plain = ind-Sort HasPlain (λ x y is. subst (λ z. HasPlain (roll-Sort z)) is (step y))

  -- ---- multisets

  module _ (s : Sort) (names : NamesDeclared items s) (fit : IsFitSort k s) where
    count_again : (n : ℕ) → n ≤ MAX_COUNT → IsReadAgain (pos n)
    count_again n most = number_back (pos n) (and_both true (int_le (pos n) greatest_number) refl greatest)
      where
        greatest : int_le (pos n) greatest_number ≡ true
        greatest = grind (arith, nat_tests)

    often_plain : (n : ℕ) → 32 ≤ n → (entry : Value × ℕ) → entry.1 ≤ MAX_COUNT → IsMember (widths_of items) entry.0 s → IsPlain k items (suc n) (so_often items s entry)
    often_plain n deep entry most member =
        let count = term_of_node (nodes.Number (pos entry.1) numbers.Positive) in
        let depth = small_depth s fit.small in
        plain_by n (so_often items s entry)
        (operator op.NumberOf (count ∷ ground_term items s entry.0 ∷ []) (takes_count k had)
        (some_level n count (omega (arith, deep)) (λ m. number (pos entry.1) numbers.Positive (count_again entry.1 most) refl), (ground_plain s n (omega (arith, depth, deep)) names fit.stands fit.sound fit.small entry.0 member, tt)) refl)

    all_often : (bag : List (Value × ℕ)) → Every (λ entry. (0 < entry.1) × (entry.1 ≤ MAX_COUNT)) bag → Every (λ entry. IsMember (widths_of items) entry.0 s) bag → AllByRecursion (IsPlain k items 33) (map (so_often items s) bag)
    all_often [] counts members = tt
    all_often (entry ∷ bag) counts members = (often_plain 32 (omega arith) entry counts.0.1 members.0, all_often bag counts.1 members.1)

    -- the term of a multiset can be written
    pub bag_plain : (bag : List (Value × ℕ)) (e : Term) → Every (λ entry. (0 < entry.1) × (entry.1 ≤ MAX_COUNT)) bag → Every (λ entry. IsMember (widths_of items) entry.0 s) bag → bag_term items s bag ≡ Some e → IsPlain k items 34 e
    bag_plain [] e counts members is = absurd cc
    bag_plain (entry ∷ []) e counts members is = let same : so_often items s entry ≡ e = cc in subst (IsPlain k items 34) same (often_plain 33 (omega arith) entry counts.0.1 members.0)
    bag_plain (entry ∷ other ∷ more) e counts members is =
        let args = map (so_often items s) (entry ∷ other ∷ more) in
        let same : applied op.Add args ≡ e = cc in
        subst (IsPlain k items 34) same (plain_by 33 (applied op.Add args) (operator op.Add args (takes_sum k had (length args) (omega arith)) (all_often (entry ∷ other ∷ more) counts members) refl))
