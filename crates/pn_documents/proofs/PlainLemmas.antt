-- Terms without variables that can be written: they have elements without faults of shape, of few levels, and are read back from them.
use Rattle.std.proofs.Common.{◌≡◌, ℕ, zero, suc, ◌≤◌, Bool, true, false, ℤ, pos, List, [], ◌∷◌, map, length, codes, int_lt, Option, Some, None, IfSome, refl, sym, ap, subst, ◌∙◌, arith}
use Rattle.std.specs.Fmt.{signed_decimal}
use Rattle.std.specs.List.{AllByRecursion, slice_get, slice_index_or}
use Rattle.std.specs.Option.{option_map, unwrap_or}
use Rattle.std.specs.Str.{bytes_eq}
use Rattle.std.proofs.lemmas.Simd.{map-map}
use Rattle.pn_facts.proofs.Each.{each, one_of}
use Rattle.pn_faults.specs.declared.fault.Fault.{Fault}
use Rattle.pn_operators.specs.Operators.{name_of}
use Rattle.pn_operators.specs.declared.kind.Kind.{Kind}
use Rattle.pn_operators.specs.declared.kind.Kind.TheVariants as kind
use Rattle.pn_operators.specs.declared.op.Op.{Op}
use Rattle.pn_operators.specs.declared.op.Op.TheVariants as op
use Rattle.pn_resolve.specs.Standing.{StandsInSort}
use Rattle.pn_text.specs.Characters.{is_name, is_text}
use Rattle.pn_tree.specs.Elements.{is_element}
use Rattle.pn_tree.specs.declared.element.Attr.{Attr}
use Rattle.pn_tree.specs.declared.element.Child.TheVariants as children
use Rattle.pn_tree.specs.declared.element.Element.{Element}
use Rattle.pn_syntax.specs.declared.declaration.Declaration.{Declaration}
use Rattle.pn_syntax.specs.declared.sort_expr.SortExpr.{SortExpr}
use Rattle.pn_syntax.specs.declared.term.NumberSort.{NumberSort}
use Rattle.pn_syntax.specs.declared.term.NumberSort.TheVariants as number_sorts
use Rattle.pn_syntax.specs.declared.term.Term.{Term}
use Rattle.pn_syntax.specs.declared.term.TermNode.{TermNode}
use Rattle.pn_syntax.specs.declared.term.TermNode.TheOpen as layer
use Rattle.pn_syntax.specs.declared.term.TermNode.TheVariants as nodes
use Rattle.pn_shape.specs.Attributes.{attr_fault, form_fault, lack_fault}
use Rattle.pn_shape.specs.Faults.{IsShaped, IsShapedSort, IsShapedTerm, fill_faults, no_slot}
use Rattle.pn_shape.specs.Numbers.{number_in}
use Rattle.pn_shape.specs.Rules.{Saying, argument_slots, rule_for, slot_of}
use Rattle.pn_shape.specs.Shaped.{HasShape, IsPlaced, IsWithinMost}
use Rattle.pn_shape.specs.Spots.{filled, has_slot, spot_at, spot_in, tag_of}
use Rattle.pn_shape.specs.declared.rule.Content.TheVariants as contents
use Rattle.pn_shape.specs.declared.rule.Fill.TheVariants as fill
use Rattle.pn_shape.specs.declared.rule.Form.TheVariants as form
use Rattle.pn_shape.specs.declared.rule.Over.TheVariants as over
use Rattle.pn_shape.specs.declared.rule.Slot.{Slot}
use Rattle.pn_shape.specs.declared.tag.Tag.{Tag}
use Rattle.pn_shape.specs.declared.tag.Tag.TheVariants as tag
use Rattle.pn_shape.proofs.PlaceLemmas.{fill_of, of_fill, placed_element}
use Rattle.pn_spelling.specs.Parts.{child_elements, number_at}
use Rattle.pn_spelling.specs.ReadSorts.{no_sort, sort_read}
use Rattle.pn_spelling.specs.ReadTerms.{no_term, number_sort_of, term_in, term_node, term_read}
use Rattle.pn_spelling.specs.Writing.{attribute, attributed, enclosing, made}
use Rattle.pn_spelling.specs.WriteSorts.{range_element, sort_element}
use Rattle.pn_spelling.specs.WriteTerms.{number_sort_name, subterm, term_element, truth_text}
use Rattle.pn_spelling.proofs.OperatorLemmas.{operator_by_own_name}
use Rattle.pn_spelling.proofs.ReadLemmas.{term_read_is}
use Rattle.pn_spelling.proofs.WriteLemmas.{apply_element}
use Rattle.pn_round_trip.proofs.KidLemmas.{Stands, elements_again, filled_only, leaf_shape, shaped_elements, spot_first}
use Rattle.pn_round_trip.proofs.SortLemmas.{right_number}
use Rattle.pn_round_trip.proofs.TermLemmas.{operator_node, term_element_at}
use Rattle.pn_round_trip.proofs.WritableSorts.{HasSorts, range_fits}
use Rattle.pn_round_trip.proofs.WritableParts.{AllFit, around_fits, attributed_fits, first_fits, made_fits, one_fits, value_attrs}
use Rattle.pn_round_trip.proofs.WritableTexts.{number_text}
use Rattle.pn_checks.specs.NoValue.{HasNoVariable}
use Rattle.pn_net.specs.Typing.{HasEmptyConstantRange}
use Rattle.pn_terms.proofs.TermLemmas.{out_apply, out_constant, out_empty_list, out_number, out_range, out_text, out_truth, out_variable}
use Rattle.pn_terms.specs.Standing.{SortStandsAt, SortStandsIn}
use Rattle.pn_terms.specs.Terms.{IsPart, Layer, inside, itself, layer_of, parts_in, parts_of}
use Rattle.pn_tree.proofs.TreeLemmas.{is_element_more}
use Rattle.std.proofs.lemmas.Bool.{false≢true}
use Rattle.pn_marked.specs.Ground.{applied, term_of_node}

-- ---- an element with kids in one place

module _ (k : Kind) (says : Saying) (slot : Slot) (only : says.slots ≡ slot ∷ []) where
  stands : (x : Element) → fill_faults k slot.fill x ≡ [] → Stands k says x
  stands x fills = let t = fill_of k slot.fill x fills in (spot_at 0 t.0, ap (spot_in k x.name 0) only ∙ spot_first k slot [] x.name t.0 t.1, t.2)

  all_placed : (xs : List Element) → AllByRecursion (λ x. fill_faults k slot.fill x ≡ []) xs → AllByRecursion (IsPlaced k says) (map children.Element xs)
  all_placed [] all = tt
  all_placed (x ∷ xs) all = let s = stands x all.0 in (placed_element k says x s.0 s.1 s.2, all_placed xs all.1)

  -- where so many elements stand in it as may, it is as its row says
  pub only_shape : (name : List ℕ) (attrs : List Attr) (xs : List Element) → says.content ≡ contents.Elements → AllByRecursion (λ x. fill_faults k slot.fill x ≡ []) xs
      → slot.least ≤ length xs → IfSome slot.most (λ most. length xs ≤ most)
      → AllByRecursion (λ a. attr_fault says.attrs a ≡ None) attrs → AllByRecursion (λ r. lack_fault attrs r ≡ None) says.attrs → HasShape k says (made name attrs (map children.Element xs))
  only_shape name attrs xs content fills enough few no_fault no_lack = record {
    attrs = no_fault;
    lacks = no_lack;
    text = ap (λ c. Rattle.pn_shape.specs.Faults.text_fault c (Rattle.pn_shape.specs.Faults.own_text (map children.Element xs))) content ∙ no_text;
    kids = all_placed xs fills;
    most = most;
    least = least;
  }
    where
      number : filled k says.slots 0 (map children.Element xs) ≡ length xs
      number = filled_only k says slot only xs (each (λ x. fill_faults k slot.fill x ≡ []) (Stands k says) stands xs fills)

      no_text : Rattle.pn_shape.specs.Faults.text_fault contents.Elements (Rattle.pn_shape.specs.Faults.own_text (map children.Element xs)) ≡ None
      no_text = refl

      most : (i : ℕ) → IsWithinMost k says (map children.Element xs) i
      most zero = subst (λ n. IfSome (slice_index_or says.slots 0 no_slot).most (λ m. n ≤ m)) (sym number) (subst (λ slots. IfSome (slice_index_or slots 0 no_slot).most (λ m. length xs ≤ m)) (sym only) few)
      most (suc i) = subst (λ slots. IfSome (slice_index_or slots (suc i) no_slot).most (λ m. filled k says.slots (suc i) (map children.Element xs) ≤ m)) (sym only) tt

      least : (i : ℕ) (s : Slot) → slice_get says.slots i ≡ Some s → has_slot k s.fill ≡ true → s.least ≤ filled k says.slots i (map children.Element xs)
      least zero s at had =
          let first : Some slot ≡ Some s = sym (ap (λ slots. slice_get slots 0) only) ∙ at in
          let same : slot ≡ s = cc in
          subst (λ n. s.least ≤ n) (sym number) (subst (λ (r : Slot). r.least ≤ length xs) same enough)
      least (suc i) s at had = absurd (let none : None ≡ Some s = sym (ap (λ slots. slice_get slots (suc i)) only) ∙ at in cc)

-- ---- tags of terms, in nets that have them

truth_tag : (k : Kind) → HasSorts k → tag_of k (codes "booleanconstant") fill.Term ≡ Some tag.BooleanConstant
unfolding rule_for tag_of
truth_tag kind.PtNet had = absurd cc
truth_tag kind.Symmetric had = refl
truth_tag kind.HighLevel had = refl

number_tag : (k : Kind) → HasSorts k → tag_of k (codes "numberconstant") fill.Term ≡ Some tag.NumberConstant
unfolding rule_for tag_of
number_tag kind.PtNet had = absurd cc
number_tag kind.Symmetric had = refl
number_tag kind.HighLevel had = refl

range_tag : (k : Kind) → HasSorts k → tag_of k (codes "finiteintrangeconstant") fill.Term ≡ Some tag.FiniteIntRangeConstant
unfolding rule_for tag_of
range_tag kind.PtNet had = absurd cc
range_tag kind.Symmetric had = refl
range_tag kind.HighLevel had = refl

constant_tag : (k : Kind) → HasSorts k → tag_of k (codes "useroperator") fill.Term ≡ Some tag.UserOperator
unfolding rule_for tag_of
constant_tag kind.PtNet had = absurd cc
constant_tag kind.Symmetric had = refl
constant_tag kind.HighLevel had = refl

dot_tag : (k : Kind) → HasSorts k → tag_of k (codes "dotconstant") fill.Term ≡ Some (tag.Operator op.DotConstant)
unfolding rule_for tag_of
dot_tag kind.PtNet had = absurd cc
dot_tag kind.Symmetric had = refl
dot_tag kind.HighLevel had = refl

inner_range_tag : (k : Kind) → HasSorts k → tag_of k (codes "finiteintrange") (fill.One tag.FiniteIntRange) ≡ Some tag.FiniteIntRange
unfolding rule_for tag_of
inner_range_tag kind.PtNet had = absurd cc
inner_range_tag kind.Symmetric had = refl
inner_range_tag kind.HighLevel had = refl

subterm_tag : (k : Kind) → tag_of k (codes "subterm") (fill.One tag.Subterm) ≡ Some tag.Subterm
unfolding rule_for tag_of
subterm_tag k = refl

number_sort_is : NumberSort → Tag
number_sort_is number_sorts.Integer = tag.OfIntegers
number_sort_is number_sorts.Natural = tag.OfNaturals
number_sort_is number_sorts.Positive = tag.OfPositives

number_sort_tagged : (k : Kind) (sort : NumberSort) → HasSorts k → tag_of k (number_sort_name sort) fill.NumberSort ≡ Some (number_sort_is sort)
unfolding rule_for tag_of number_sort_is
number_sort_tagged kind.PtNet sort had = absurd cc
number_sort_tagged kind.Symmetric number_sorts.Integer had = refl
number_sort_tagged kind.Symmetric number_sorts.Natural had = refl
number_sort_tagged kind.Symmetric number_sorts.Positive had = refl
number_sort_tagged kind.HighLevel number_sorts.Integer had = refl
number_sort_tagged kind.HighLevel number_sorts.Natural had = refl
number_sort_tagged kind.HighLevel number_sorts.Positive had = refl

number_sort_made : (k : Kind) (sort : NumberSort) → IsShaped k (number_sort_is sort) (made (number_sort_name sort) [] [])
unfolding rule_for number_sort_is
number_sort_made k number_sorts.Integer = shaped_elements k tag.OfIntegers (made (codes "integer") [] []) refl (leaf_shape k (rule_for tag.OfIntegers) (codes "integer") [] refl refl tt tt)
number_sort_made k number_sorts.Natural = shaped_elements k tag.OfNaturals (made (codes "natural") [] []) refl (leaf_shape k (rule_for tag.OfNaturals) (codes "natural") [] refl refl tt tt)
number_sort_made k number_sorts.Positive = shaped_elements k tag.OfPositives (made (codes "positive") [] []) refl (leaf_shape k (rule_for tag.OfPositives) (codes "positive") [] refl refl tt tt)

number_sort_fills : (k : Kind) (sort : NumberSort) → HasSorts k → fill_faults k fill.NumberSort (made (number_sort_name sort) [] []) ≡ []
number_sort_fills k sort had = of_fill k fill.NumberSort (made (number_sort_name sort) [] []) (number_sort_is sort) (number_sort_tagged k sort had) (number_sort_made k sort)

number_node : (z : ℤ) (sort : NumberSort) → nodes.Number z (number_sort_of (made (number_sort_name sort) [] [])) ≡ nodes.Number z sort
number_node z number_sorts.Integer = refl
number_node z number_sorts.Natural = refl
number_node z number_sorts.Positive = refl

-- ---- what can be written

-- a number is read again from what is written of it
abbrev pub IsReadAgain : ℤ → Type 0
IsReadAgain z = number_in (signed_decimal z) ≡ Some z

-- a sort that a term writes
pub record IsPlainSort (k : Kind) (items : List Declaration) (s : SortExpr) : Type 0 where
  pub shaped : IsShapedSort k (sort_element s)
  pub reads : sort_read (sort_element s) ≡ s
  pub levels : is_element 32 (sort_element s) ≡ true
  pub sound : (f : Fault) → StandsInSort items s f → ⊥

-- an operator whose arguments stand in one place, and this number of them
pub record TakesSo (k : Kind) (o : Op) (number : ℕ) : Type 0 where
  pub tagged : tag_of k (name_of o) fill.Term ≡ Some (tag.Operator o)
  pub named : is_name (name_of o) ≡ true
  pub least : ℕ
  pub most : Option ℕ
  pub slots : argument_slots o ≡ slot_of tag.Subterm least most ∷ []
  pub enough : least ≤ number
  pub few : IfSome most (λ m. number ≤ m)

-- one layer of a term, whose arguments are such
pub data IsPlainBy (k : Kind) (items : List Declaration) (P : Term → Type 0) (e : Term) : Type 0 where
  dot : e ≡ applied op.DotConstant [] → IsPlainBy k items P e
  truth : (b : Bool) → e ≡ term_of_node (nodes.Bool b) → IsPlainBy k items P e
  number : (z : ℤ) (sort : NumberSort) → IsReadAgain z → e ≡ term_of_node (nodes.Number z sort) → IsPlainBy k items P e
  range : (z start end : ℤ) → IsReadAgain z → IsReadAgain start → IsReadAgain end → int_lt end start ≡ false → e ≡ term_of_node (nodes.RangeConst z start end) → IsPlainBy k items P e
  text : (t : List ℕ) → is_text t ≡ true → k ≡ kind.HighLevel → e ≡ term_of_node (nodes.Text t) → IsPlainBy k items P e
  constant : (id : List ℕ) → is_text id ≡ true → e ≡ term_of_node (nodes.UserOp id) → IsPlainBy k items P e
  empty_list : (s : SortExpr) → k ≡ kind.HighLevel → IsPlainSort k items s → e ≡ term_of_node (nodes.EmptyList s) → IsPlainBy k items P e
  operator : (o : Op) (es : List Term) → TakesSo k o (length es) → AllByRecursion P es → e ≡ applied o es → IsPlainBy k items P e

-- a term of so many levels
unfoldable pub IsPlain : Kind → List Declaration → ℕ → Term → Type 0
IsPlain k items zero e = ⊥
IsPlain k items (suc n) e = IsPlainBy k items (IsPlain k items n) e

-- ---- it is read again

module _ (k : Kind) (items : List Declaration) (had : HasSorts k) where
  -- what is to be shown: its element has no fault of shape, and reads back as the term
  abbrev pub ReadsBack : Term → Type 0
  ReadsBack e = IsShapedTerm k (term_element e) × (term_read (term_element e) ≡ e)

  by_node : (e : Term) (n : TermNode) (y : Element) → e ≡ term_of_node n → term_element (term_of_node n) ≡ y → IsShapedTerm k y → y.at ≡ 0 → term_node y (map term_in (child_elements y)) ≡ n → ReadsBack e
  by_node e n y is written shaped origin reads =
      subst ReadsBack (sym is) (subst (IsShapedTerm k) (sym written) shaped, ap term_read written ∙ term_read_is y ∙ (λ i. record { at = origin i; node = reads i }))

  fills_as : (t : Tag) (y : Element) → (rule_for t).content ≡ contents.Elements → tag_of k y.name fill.Term ≡ Some t → HasShape k (rule_for t) y → IsShapedTerm k y
  fills_as t y content is shape = of_fill k fill.Term y t is (shaped_elements k t y content shape)

  truth_right : (b : Bool) → form_fault form.Truth (truth_text b) ≡ None
  truth_right true = refl
  truth_right false = refl

  truth_back : (b : Bool) → bytes_eq (truth_text b) (codes "true") ≡ b
  truth_back true = refl
  truth_back false = refl

  dot_back : (e : Term) → e ≡ applied op.DotConstant [] → ReadsBack e
  unfolding rule_for
  dot_back e is =
      let y = made (codes "dotconstant") [] [] in
      by_node e (nodes.Apply op.DotConstant []) y is (apply_element (applied op.DotConstant []) op.DotConstant [] refl)
      (fills_as (tag.Operator op.DotConstant) y refl (dot_tag k had) (leaf_shape k (rule_for (tag.Operator op.DotConstant)) (codes "dotconstant") [] refl refl tt tt)) refl refl

  truth_reads : (e : Term) (b : Bool) → e ≡ term_of_node (nodes.Bool b) → ReadsBack e
  unfolding rule_for
  truth_reads e b is =
      let y = attributed (codes "booleanconstant") (codes "value") (truth_text b) in
      by_node e (nodes.Bool b) y is (term_element_at (term_of_node (nodes.Bool b)) (layer.Bool b) (nodes.rolls-Bool b))
      (fills_as tag.BooleanConstant y refl (truth_tag k had) (leaf_shape k (rule_for tag.BooleanConstant) (codes "booleanconstant") (attribute (codes "value") (truth_text b) ∷ []) refl refl (truth_right b, tt) (refl, tt)))
      refl (ap nodes.Bool (truth_back b))

  constant_reads : (e : Term) (id : List ℕ) → e ≡ term_of_node (nodes.UserOp id) → ReadsBack e
  unfolding rule_for
  constant_reads e id is =
      let y = attributed (codes "useroperator") (codes "declaration") id in
      by_node e (nodes.UserOp id) y is (term_element_at (term_of_node (nodes.UserOp id)) (layer.UserOp id) (nodes.rolls-UserOp id))
      (fills_as tag.UserOperator y refl (constant_tag k had) (leaf_shape k (rule_for tag.UserOperator) (codes "useroperator") (attribute (codes "declaration") id ∷ []) refl refl (refl, tt) (refl, tt)))
      refl refl

  text_tag : k ≡ kind.HighLevel → tag_of k (codes "stringconstant") fill.Term ≡ Some tag.StringConstant
  unfolding rule_for tag_of
  text_tag high = ap (λ q. tag_of q (codes "stringconstant") fill.Term) high

  list_tag : k ≡ kind.HighLevel → tag_of k (codes "emptylist") fill.Term ≡ Some tag.EmptyList
  unfolding rule_for tag_of
  list_tag high = ap (λ q. tag_of q (codes "emptylist") fill.Term) high

  text_reads : (e : Term) (t : List ℕ) → k ≡ kind.HighLevel → e ≡ term_of_node (nodes.Text t) → ReadsBack e
  unfolding rule_for
  text_reads e t high is =
      let y = attributed (codes "stringconstant") (codes "value") t in
      by_node e (nodes.Text t) y is (term_element_at (term_of_node (nodes.Text t)) (layer.Text t) (nodes.rolls-Text t))
      (fills_as tag.StringConstant y refl (text_tag high) (leaf_shape k (rule_for tag.StringConstant) (codes "stringconstant") (attribute (codes "value") t ∷ []) refl refl (refl, tt) (refl, tt)))
      refl refl

  number_reads : (e : Term) (z : ℤ) (sort : NumberSort) → IsReadAgain z → e ≡ term_of_node (nodes.Number z sort) → ReadsBack e
  unfolding rule_for
  number_reads e z sort again is =
      let x = made (number_sort_name sort) [] [] in
      let attrs = attribute (codes "value") (signed_decimal z) ∷ [] in
      let y = made (codes "numberconstant") attrs (map children.Element (x ∷ [])) in
      let slot : Slot = record { fill = fill.NumberSort; least = 1; most = Some 1; over = over.Repeated } in
      by_node e (nodes.Number z sort) y is (term_element_at (term_of_node (nodes.Number z sort)) (layer.Number z sort) (nodes.rolls-Number z sort))
      (fills_as tag.NumberConstant y refl (number_tag k had)
      (only_shape k (rule_for tag.NumberConstant) slot refl (codes "numberconstant") attrs (x ∷ []) refl (number_sort_fills k sort had, tt) (omega arith) (omega arith) (right_number z again, tt) (refl, tt)))
      refl
      ((λ i. nodes.Number (unwrap_or (again i) (pos 0)) (unwrap_or (option_map number_sort_of (slice_get (elements_again (x ∷ []) i) 0)) number_sorts.Integer)) ∙ number_node z sort)

  range_reads : (e : Term) (z start end : ℤ) → IsReadAgain z → IsReadAgain start → IsReadAgain end → e ≡ term_of_node (nodes.RangeConst z start end) → ReadsBack e
  unfolding rule_for
  range_reads e z start end again first last is =
      let x = range_element start end in
      let attrs = attribute (codes "value") (signed_decimal z) ∷ [] in
      let y = made (codes "finiteintrangeconstant") attrs (map children.Element (x ∷ [])) in
      let slot : Slot = record { fill = fill.One tag.FiniteIntRange; least = 1; most = Some 1; over = over.Repeated } in
      let inner = of_fill k (fill.One tag.FiniteIntRange) x tag.FiniteIntRange (inner_range_tag k had)
      (shaped_elements k tag.FiniteIntRange x refl (leaf_shape k (rule_for tag.FiniteIntRange) (codes "finiteintrange") x.attrs refl refl (right_number start first, (right_number end last, tt)) (refl, (refl, tt)))) in
      by_node e (nodes.RangeConst z start end) y is (term_element_at (term_of_node (nodes.RangeConst z start end)) (layer.RangeConst z start end) (nodes.rolls-RangeConst z start end))
      (fills_as tag.FiniteIntRangeConstant y refl (range_tag k had)
      (only_shape k (rule_for tag.FiniteIntRangeConstant) slot refl (codes "finiteintrangeconstant") attrs (x ∷ []) refl (inner, tt) (omega arith) (omega arith) (right_number z again, tt) (refl, tt)))
      refl
      ((λ i. nodes.RangeConst (unwrap_or (again i) (pos 0)) (unwrap_or (option_map (number_at (codes "start")) (slice_get (elements_again (x ∷ []) i) 0)) (pos 0)) (unwrap_or (option_map (number_at (codes "end")) (slice_get (elements_again (x ∷ []) i) 0)) (pos 0)))
      ∙ (λ i. nodes.RangeConst z (unwrap_or (first i) (pos 0)) (unwrap_or (last i) (pos 0))))

  empty_list_reads : (e : Term) (s : SortExpr) → k ≡ kind.HighLevel → IsPlainSort k items s → e ≡ term_of_node (nodes.EmptyList s) → ReadsBack e
  unfolding rule_for
  empty_list_reads e s high plain is =
      let x = sort_element s in
      let y = made (codes "emptylist") [] (map children.Element (x ∷ [])) in
      let slot : Slot = record { fill = fill.Sort; least = 1; most = Some 1; over = over.Repeated } in
      by_node e (nodes.EmptyList s) y is (term_element_at (term_of_node (nodes.EmptyList s)) (layer.EmptyList s) (nodes.rolls-EmptyList s))
      (fills_as tag.EmptyList y refl (list_tag high) (only_shape k (rule_for tag.EmptyList) slot refl (codes "emptylist") [] (x ∷ []) refl (plain.shaped, tt) (omega arith) (omega arith) tt tt))
      refl
      (ap (λ xs. nodes.EmptyList (unwrap_or (option_map sort_read (slice_get xs 0)) no_sort)) (elements_again (x ∷ [])) ∙ ap nodes.EmptyList plain.reads)

  -- an argument stands in a `subterm`
  subterm_fills : (x : Element) → IsShapedTerm k x → fill_faults k (fill.One tag.Subterm) (enclosing (codes "subterm") x) ≡ []
  unfolding rule_for
  subterm_fills x shaped =
      let slot : Slot = record { fill = fill.Term; least = 1; most = Some 1; over = over.Repeated } in
      of_fill k (fill.One tag.Subterm) (enclosing (codes "subterm") x) tag.Subterm (subterm_tag k)
      (shaped_elements k tag.Subterm (enclosing (codes "subterm") x) refl (only_shape k (rule_for tag.Subterm) slot refl (codes "subterm") [] (x ∷ []) refl (shaped, tt) (omega arith) (omega arith) tt tt))

  abbrev around : Term → Element
  around e = enclosing (codes "subterm") (term_element e)

  all_fill_one : (es : List Term) → AllByRecursion ReadsBack es → AllByRecursion (λ x. fill_faults k (fill.One tag.Subterm) x ≡ []) (map around es)
  all_fill_one [] all = tt
  all_fill_one (e ∷ es) all = (subterm_fills (term_element e) all.0.0, all_fill_one es all.1)

  all_read : (es : List Term) → AllByRecursion ReadsBack es → map term_in (map around es) ≡ es
  all_read [] all = refl
  all_read (e ∷ es) all = λ i. (ap (λ xs. unwrap_or (option_map term_read (slice_get xs 0)) no_term) (elements_again (term_element e ∷ [])) ∙ all.0.1) i ∷ all_read es all.1 i

  same_number : (es : List Term) → length (map around es) ≡ length es
  same_number [] = refl
  same_number (e ∷ es) = ap suc (same_number es)

  operator_reads : (e : Term) (o : Op) (es : List Term) → TakesSo k o (length es) → AllByRecursion ReadsBack es → e ≡ applied o es → ReadsBack e
  unfolding rule_for
  operator_reads e o es takes all is =
      let xs = map around es in
      let y = made (name_of o) [] (map children.Element xs) in
      by_node e (nodes.Apply o es) y is
      (apply_element (applied o es) o es refl ∙ ap (made (name_of o) []) (map-map subterm term_element es ∙ sym (map-map children.Element around es)))
      (fills_as (tag.Operator o) y refl takes.tagged
      (only_shape k (rule_for (tag.Operator o)) (slot_of tag.Subterm takes.least takes.most) takes.slots (name_of o) [] xs refl (all_fill_one es all)
      (subst (λ n. takes.least ≤ n) (sym (same_number es)) takes.enough) (subst (λ n. IfSome takes.most (λ m. n ≤ m)) (sym (same_number es)) takes.few) tt tt))
      refl
      (operator_node o y (map term_in (child_elements y)) ∙ (λ i. nodes.Apply (operator_by_own_name o i) ((ap (map term_in) (elements_again xs) ∙ all_read es all) i)))

  -- a term that can be written is read again
  pub plain_reads : (n : ℕ) (e : Term) → IsPlain k items n e → ReadsBack e
  unfolding IsPlain
  plain_reads zero e plain = absurd plain
  plain_reads (suc n) e (dot is) = dot_back e is
  plain_reads (suc n) e (truth b is) = truth_reads e b is
  plain_reads (suc n) e (number z sort again is) = number_reads e z sort again is
  plain_reads (suc n) e (range z start end again first last some is) = range_reads e z start end again first last is
  plain_reads (suc n) e (text t right high is) = text_reads e t high is
  plain_reads (suc n) e (constant id right is) = constant_reads e id is
  plain_reads (suc n) e (empty_list s high plain is) = empty_list_reads e s high plain is
  plain_reads (suc n) e (operator o es takes all is) = operator_reads e o es takes (each (IsPlain k items n) ReadsBack (λ x plain. plain_reads n x plain) es all) is

-- ---- it has few levels

-- how many levels the element of a term of so many levels may have
abbrev pub room_for : ℕ → ℕ
room_for zero = 33
room_for (suc n) = suc (suc (room_for n))

room_enough : (n : ℕ) → 33 ≤ room_for n
room_enough zero = omega arith
room_enough (suc n) = let rest = room_enough n in omega (arith, rest)

pub read_text : (z : ℤ) → IsReadAgain z → is_text (signed_decimal z) ≡ true
read_text z again = subst (λ y. is_text (signed_decimal y) ≡ true) (ap (λ o. unwrap_or o (pos 0)) again) (number_text (signed_decimal z))

truth_fits : (n : ℕ) (b : Bool) → is_element (suc n) (attributed (codes "booleanconstant") (codes "value") (truth_text b)) ≡ true
truth_fits n true = attributed_fits n (codes "booleanconstant") (codes "value") (truth_text true) refl refl refl
truth_fits n false = attributed_fits n (codes "booleanconstant") (codes "value") (truth_text false) refl refl refl

number_sort_named : (sort : NumberSort) → is_name (number_sort_name sort) ≡ true
number_sort_named number_sorts.Integer = refl
number_sort_named number_sorts.Natural = refl
number_sort_named number_sorts.Positive = refl

module _ (k : Kind) (items : List Declaration) where
  fits_by : (n : ℕ) (e made_of : Term) (y : Element) → e ≡ made_of → term_element made_of ≡ y → is_element n y ≡ true → is_element n (term_element e) ≡ true
  fits_by n e made_of y is written h = ap (λ x. is_element n (term_element x)) is ∙ ap (is_element n) written ∙ h

  arguments_fit : (n : ℕ) (es : List Term) → AllByRecursion (λ e. is_element n (term_element e) ≡ true) es → AllFit (suc n) (map subterm (map term_element es))
  arguments_fit n [] all = refl
  arguments_fit n (e ∷ es) all = first_fits (suc n) (enclosing (codes "subterm") (term_element e)) (map subterm (map term_element es)) (around_fits n (codes "subterm") (term_element e) refl all.0) (arguments_fit n es all.1)

  pub plain_fits : (n : ℕ) (e : Term) → IsPlain k items n e → is_element (room_for n) (term_element e) ≡ true
  unfolding IsPlain
  plain_fits zero e plain = absurd plain
  plain_fits (suc n) e (dot is) =
      fits_by (room_for (suc n)) e (applied op.DotConstant []) (made (codes "dotconstant") [] []) is (apply_element (applied op.DotConstant []) op.DotConstant [] refl) (made_fits (suc (room_for n)) (codes "dotconstant") [] [] refl refl refl)
  plain_fits (suc n) e (truth b is) =
      fits_by (room_for (suc n)) e (term_of_node (nodes.Bool b)) _ is (term_element_at (term_of_node (nodes.Bool b)) (layer.Bool b) (nodes.rolls-Bool b))
      (truth_fits (suc (room_for n)) b)
  plain_fits (suc n) e (number z sort again is) =
      fits_by (room_for (suc n)) e (term_of_node (nodes.Number z sort)) _ is (term_element_at (term_of_node (nodes.Number z sort)) (layer.Number z sort) (nodes.rolls-Number z sort))
      (made_fits (suc (room_for n)) (codes "numberconstant") (attribute (codes "value") (signed_decimal z) ∷ []) (children.Element (made (number_sort_name sort) [] []) ∷ []) refl (value_attrs (codes "value") (signed_decimal z) refl (read_text z again))
      (one_fits (suc (room_for n)) (made (number_sort_name sort) [] []) (made_fits (room_for n) (number_sort_name sort) [] [] (number_sort_named sort) refl refl)))
  plain_fits (suc n) e (range z start end again first last some is) =
      fits_by (room_for (suc n)) e (term_of_node (nodes.RangeConst z start end)) _ is (term_element_at (term_of_node (nodes.RangeConst z start end)) (layer.RangeConst z start end) (nodes.rolls-RangeConst z start end))
      (made_fits (suc (room_for n)) (codes "finiteintrangeconstant") (attribute (codes "value") (signed_decimal z) ∷ []) (children.Element (range_element start end) ∷ []) refl (value_attrs (codes "value") (signed_decimal z) refl (read_text z again))
      (one_fits (suc (room_for n)) (range_element start end) (range_fits (room_for n) start end (read_text start first) (read_text end last))))
  plain_fits (suc n) e (text t right high is) =
      fits_by (room_for (suc n)) e (term_of_node (nodes.Text t)) _ is (term_element_at (term_of_node (nodes.Text t)) (layer.Text t) (nodes.rolls-Text t))
      (attributed_fits (suc (room_for n)) (codes "stringconstant") (codes "value") t refl refl right)
  plain_fits (suc n) e (constant id right is) =
      fits_by (room_for (suc n)) e (term_of_node (nodes.UserOp id)) _ is (term_element_at (term_of_node (nodes.UserOp id)) (layer.UserOp id) (nodes.rolls-UserOp id))
      (attributed_fits (suc (room_for n)) (codes "useroperator") (codes "declaration") id refl refl right)
  plain_fits (suc n) e (empty_list s high plain is) =
      let room = room_enough n in
      fits_by (room_for (suc n)) e (term_of_node (nodes.EmptyList s)) _ is (term_element_at (term_of_node (nodes.EmptyList s)) (layer.EmptyList s) (nodes.rolls-EmptyList s))
      (around_fits (suc (room_for n)) (codes "emptylist") (sort_element s) refl (is_element_more 32 (suc (room_for n)) (sort_element s) (omega (arith, room)) plain.levels))
  plain_fits (suc n) e (operator o es takes all is) =
      fits_by (room_for (suc n)) e (applied o es) (made (name_of o) [] (map subterm (map term_element es))) is (apply_element (applied o es) o es refl)
      (made_fits (suc (room_for n)) (name_of o) [] (map subterm (map term_element es)) takes.named refl
      (arguments_fit (room_for n) es (each (IsPlain k items n) (λ x. is_element (room_for n) (term_element x) ≡ true) (λ x plain. plain_fits n x plain) es all)))

  -- ---- what stands in it

  -- no variable, no empty range, and no sort with a fault
  abbrev IsPlainLayer : Layer → Type 0
  IsPlainLayer (layer.Variable name) = ⊥
  IsPlainLayer (layer.UserOp name) = Unit {0}
  IsPlainLayer (layer.Bool b) = Unit {0}
  IsPlainLayer (layer.Number z sort) = Unit {0}
  IsPlainLayer (layer.RangeConst z start end) = int_lt end start ≡ false
  IsPlainLayer (layer.Text t) = Unit {0}
  IsPlainLayer (layer.All s) = ⊥
  IsPlainLayer (layer.Empty s) = ⊥
  IsPlainLayer (layer.EmptyList s) = (f : Fault) → StandsInSort items s f → ⊥
  IsPlainLayer (layer.PartitionOf name arg) = ⊥
  IsPlainLayer (layer.Apply o es) = Unit {0}

  abbrev IsShown : (Term → Type 0) → Layer → Type 0
  IsShown P l = IsPlainLayer l × AllByRecursion P (parts_in l)

  shown_by : (P : Term → Type 0) (e made_of : Term) (l : Layer) → e ≡ made_of → layer_of made_of ≡ l → IsShown P l → IsShown P (layer_of e)
  shown_by P e made_of l is out h = subst (IsShown P) (sym (ap layer_of is ∙ out)) h

  shown : (n : ℕ) (e : Term) → IsPlain k items (suc n) e → IsShown (IsPlain k items n) (layer_of e)
  unfolding IsPlain
  shown n e (dot is) = shown_by (IsPlain k items n) e (applied op.DotConstant []) (layer.Apply op.DotConstant []) is (out_apply (nodes.Apply op.DotConstant []) op.DotConstant [] refl) (tt, tt)
  shown n e (truth b is) = shown_by (IsPlain k items n) e (term_of_node (nodes.Bool b)) (layer.Bool b) is (out_truth (nodes.Bool b) b refl) (tt, tt)
  shown n e (number z sort again is) = shown_by (IsPlain k items n) e (term_of_node (nodes.Number z sort)) (layer.Number z sort) is (out_number (nodes.Number z sort) z sort refl) (tt, tt)
  shown n e (range z start end again first last some is) =
      shown_by (IsPlain k items n) e (term_of_node (nodes.RangeConst z start end)) (layer.RangeConst z start end) is (out_range (nodes.RangeConst z start end) z start end refl) (some, tt)
  shown n e (text t right high is) = shown_by (IsPlain k items n) e (term_of_node (nodes.Text t)) (layer.Text t) is (out_text (nodes.Text t) t refl) (tt, tt)
  shown n e (constant id right is) = shown_by (IsPlain k items n) e (term_of_node (nodes.UserOp id)) (layer.UserOp id) is (out_constant (nodes.UserOp id) id refl) (tt, tt)
  shown n e (empty_list s high plain is) = shown_by (IsPlain k items n) e (term_of_node (nodes.EmptyList s)) (layer.EmptyList s) is (out_empty_list (nodes.EmptyList s) s refl) (plain.sound, tt)
  shown n e (operator o es takes all is) = shown_by (IsPlain k items n) e (applied o es) (layer.Apply o es) is (out_apply (nodes.Apply o es) o es refl) (tt, all)

  not_plain : (e : Term) → IsPlain k items 0 e → ⊥
  unfolding IsPlain
  not_plain e plain = plain

  part_shown : (n : ℕ) (e x : Term) → IsPlain k items n e → IsPart e x → IsPlainLayer (layer_of x)
  part_shown zero e x plain part = absurd (not_plain e plain)
  part_shown (suc n) e x plain (itself _ _ same) = subst (λ y. IsPlainLayer (layer_of y)) (sym same) (shown n e plain).0
  part_shown (suc n) e x plain (inside _ _ p c rest) = part_shown n p x (one_of (IsPlain k items n) (parts_of e) p (shown n e plain).1 c) rest

  pub plain_ground : (n : ℕ) (e : Term) → IsPlain k items n e → HasNoVariable e
  plain_ground n e plain x part name is = subst IsPlainLayer (out_variable x.node name is) (part_shown n e x plain part)

  pub plain_ranges : (n : ℕ) (e : Term) → IsPlain k items n e → (f : Fault) → HasEmptyConstantRange e f → ⊥
  plain_ranges n e plain f h =
      let some = subst IsPlainLayer (out_range h.constant.node h.value h.start h.end h.is_range) (part_shown n e h.constant plain h.is_part) in
      false≢true (sym some ∙ h.is_empty)

  layer_sorts : (l : Layer) → IsPlainLayer l → (f : Fault) → SortStandsAt items l f → ⊥
  layer_sorts (layer.Variable name) plain f stands = stands
  layer_sorts (layer.UserOp name) plain f stands = stands
  layer_sorts (layer.Bool b) plain f stands = stands
  layer_sorts (layer.Number z sort) plain f stands = stands
  layer_sorts (layer.RangeConst z start end) plain f stands = stands
  layer_sorts (layer.Text t) plain f stands = stands
  layer_sorts (layer.All s) plain f stands = plain
  layer_sorts (layer.Empty s) plain f stands = plain
  layer_sorts (layer.EmptyList s) plain f stands = plain f stands
  layer_sorts (layer.PartitionOf name arg) plain f stands = stands
  layer_sorts (layer.Apply o es) plain f stands = stands

  pub plain_sorts : (n : ℕ) (e : Term) → IsPlain k items n e → (f : Fault) → SortStandsIn items e f → ⊥
  plain_sorts n e plain f (x, part, stands) = layer_sorts (layer_of x) (part_shown n e x plain part) f stands
