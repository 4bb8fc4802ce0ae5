-- The element that is written for a term has no fault of shape, and reads back as the same term.
use Rattle.std.proofs.Common.{◌≡◌, ℕ, zero, suc, ◌<◌, ◌≤◌, Bool, true, false, pos, List, [], ◌∷◌, map, codes, Option, Some, None, refl, sym, ap, subst, ◌∙◌, arith}
use Rattle.std.specs.Fmt.{signed_decimal}
use Rattle.std.specs.List.{AllByRecursion, slice_get}
use Rattle.std.specs.Option.{option_map, unwrap_or}
use Rattle.std.specs.Str.{bytes_eq}
use Rattle.std.proofs.lemmas.Simd.{map-map}
use Rattle.pn_operators.specs.Operators.{name_of, least_of, most_of}
use Rattle.pn_operators.specs.Rows.{all_operators}
use Rattle.pn_operators.specs.declared.kind.Kind.{Kind}
use Rattle.pn_operators.specs.declared.kind.Kind.TheVariants as kind
use Rattle.pn_operators.specs.declared.op.Op.{Op}
use Rattle.pn_operators.specs.declared.op.Op.TheVariants as op
use Rattle.pn_tree.specs.Depth.{depth_of}
use Rattle.pn_tree.specs.declared.element.Element.{Element}
use Rattle.pn_tree.specs.declared.element.Child.TheVariants as children
use Rattle.pn_tree.proofs.DepthLemmas.{some_levels}
use Rattle.pn_syntax.specs.Offsets.{sort_without_offsets}
use Rattle.pn_syntax.specs.TermOffsets.{at_zero, node_without_offsets, term_without_offsets}
use Rattle.pn_syntax.specs.declared.term.NumberSort.{NumberSort}
use Rattle.pn_syntax.specs.declared.term.NumberSort.TheVariants as number_sorts
use Rattle.pn_syntax.specs.declared.term.Term.{Term}
use Rattle.pn_syntax.specs.declared.term.TermNode.{TermNode, map-TermNode}
use Rattle.pn_syntax.specs.declared.term.TermNode.TheOpen as layer
use Rattle.pn_syntax.specs.declared.term.TermNode.TheVariants as nodes
use Rattle.pn_syntax.specs.declared.term.TermNode.TheVariants.{rolls-Variable, rolls-UserOp, rolls-Bool, rolls-Number, rolls-RangeConst, rolls-Text, rolls-All, rolls-Empty, rolls-EmptyList, rolls-PartitionOf, rolls-Apply}
use Rattle.pn_syntax.specs.declared.term.TermNode.TheViews.{roll-TermNode, out-TermNode, out-roll-TermNode}
use Rattle.pn_syntax.specs.declared.term.TermNode.TheFolds.{fold-TermNode, fold_out-Term}
use Rattle.pn_shape.specs.Attributes.{form_fault}
use Rattle.pn_shape.specs.Faults.{fill_faults, IsShaped, IsShapedTerm}
use Rattle.pn_shape.specs.Rules.{Saying, alternatives, is_had, rule_for, slots_between}
use Rattle.pn_shape.specs.Shaped.{HasShape}
use Rattle.pn_shape.specs.Spots.{has_slot, spot_in, tag_of}
use Rattle.pn_shape.specs.declared.rule.AttrName.TheVariants as names
use Rattle.pn_shape.specs.declared.rule.Content.TheVariants as contents
use Rattle.pn_shape.specs.declared.rule.Fill.TheVariants as fill
use Rattle.pn_shape.specs.declared.rule.Form.TheVariants as form
use Rattle.pn_shape.specs.declared.rule.Over.TheVariants as over
use Rattle.pn_shape.specs.declared.rule.Slot.{Slot}
use Rattle.pn_shape.specs.declared.tag.Tag.{Tag}
use Rattle.pn_shape.specs.declared.tag.Tag.TheVariants as tag
use Rattle.pn_shape.proofs.AttrLemmas.{needed_there}
use Rattle.pn_shape.proofs.PlaceLemmas.{fill_of, of_fill, one_is, spot_fills, tag_is}
use Rattle.pn_spelling.specs.Parts.{attribute_of, child_elements, elements_among, end_in, number_at, start_in}
use Rattle.pn_spelling.specs.ReadSorts.{sort_in}
use Rattle.pn_spelling.specs.ReadTerms.{basis_in, first_term, no_term, number_sort_in, number_sort_of, operator_named, term_in, term_node, term_read}
use Rattle.pn_spelling.specs.Writing.{enclosing, attribute, attributed, made}
use Rattle.pn_spelling.specs.WriteSorts.{range_element, sort_element, sort_step}
use Rattle.pn_spelling.specs.WriteTerms.{constant_of, number_sort_name, subterm, term_element, term_step, truth_text}
use Rattle.pn_spelling.proofs.OperatorLemmas.{operator_by_own_name}
use Rattle.pn_spelling.proofs.ReadLemmas.{term_of_parts, term_read_is}
use Rattle.pn_spelling.proofs.WriteLemmas.{term_at}
use Rattle.pn_facts.proofs.Each.{each, each_both, map_each, one_of}
use Rattle.pn_round_trip.proofs.KidLemmas.{Stands, StandsFor, elements_again, elements_shape, leaf_shape, place_there, shallower, shape_with, shaped_elements, stand_among, stands_for_only, the_only}
use Rattle.pn_round_trip.proofs.OffsetLemmas.{TermLayer, bare_term_layer, bare_term_node, bare_term_rolled, of_bare_sort, of_bare_term, with_bare_sort}
use Rattle.pn_round_trip.proofs.SortLemmas.{basis_around, sort_around, named, number_of, range_again, right_number, sort_bare_twice}

-- the element of what an element spells
abbrev pub term_again : Element → Element
term_again e = term_element (term_read e)

-- the `subterm` of the term in an element
abbrev pub subterm_again : Element → Element
subterm_again x = enclosing (codes "subterm") (term_element (term_in x))

pub term_element_at : (e : Term) (l : TermLayer) → roll-TermNode l ≡ e.node
    → term_element e ≡ term_step (map-TermNode TermNode Term Element Element (fold-TermNode Element Element term_step (λ e. e.node)) term_element l)
term_element_at e l is = term_at e l (ap out-TermNode (sym is) ∙ out-roll-TermNode l)

pub bare_term_at : (e : Term) (l : TermLayer) → roll-TermNode l ≡ e.node → term_without_offsets e ≡ record { at = 0; node = roll-TermNode (bare_term_layer l) }
bare_term_at e l is =
    fold_out-Term TermNode Term node_without_offsets at_zero e
    ∙ ap (λ n. at_zero (record { at = e.at; node = bare_term_node n })) (sym is)
    ∙ ap (λ n. record { at = 0; node = n }) (bare_term_rolled l)

-- the places for arguments

pub subterms_there : (k : Kind) → has_slot k (fill.One tag.Subterm) ≡ true
unfolding rule_for has_slot
subterms_there k = refl

only_subterm : (s : Slot) → s.fill ≡ fill.One tag.Subterm → (i : ℕ) (slot : Slot) → slice_get (s ∷ []) i ≡ Some slot → slot.fill ≡ fill.One tag.Subterm
only_subterm s fills zero slot is = let same : s ≡ slot = cc in subst (λ (r : Slot). r.fill ≡ fill.One tag.Subterm) same fills
only_subterm s fills (suc i) slot is = absurd cc

subterms_between : (least : ℕ) (most : Option ℕ) (i : ℕ) (slot : Slot) → slice_get (slots_between least most) i ≡ Some slot → slot.fill ≡ fill.One tag.Subterm
subterms_between least (Some zero) i slot is = absurd cc
subterms_between least (Some (suc most)) i slot is = only_subterm (record { fill = fill.One tag.Subterm; least = least; most = Some (suc most); over = over.Repeated }) refl i slot is
subterms_between least None i slot is = only_subterm (record { fill = fill.One tag.Subterm; least = least; most = None; over = over.Repeated }) refl i slot is

-- the numbers of a constant of a range

pub ranges_there : (k : Kind) → is_had k tag.FiniteIntRangeConstant ≡ true → has_slot k (fill.One tag.FiniteIntRange) ≡ true
unfolding rule_for has_slot
ranges_there kind.PtNet had = absurd cc
ranges_there kind.Symmetric had = refl
ranges_there kind.HighLevel had = refl

-- a constant of a range, as it is written
abbrev pub range_constant_again : Element → Element
range_constant_again x = constant_of (codes "finiteintrangeconstant") (signed_decimal (number_at (codes "value") x)) (range_element (start_in x) (end_in x))

pub range_constant_returns : (k : Kind) (x : Element) → is_had k tag.FiniteIntRangeConstant ≡ true → HasShape k (rule_for tag.FiniteIntRangeConstant) x
    → HasShape k (rule_for tag.FiniteIntRangeConstant) (range_constant_again x) × (number_at (codes "value") (range_constant_again x) ≡ number_at (codes "value") x)
    × (start_in (range_constant_again x) ≡ start_in x) × (end_in (range_constant_again x) ≡ end_in x)
unfolding rule_for
range_constant_returns k x had shape =
    let value = number_at (codes "value") x in
    let read = number_of tag.FiniteIntRangeConstant x (codes "value") shape (needed_there x.attrs (record { name = names.Value; is_needed = true; form = form.Number }) shape.lacks.0 refl) (λ v. refl) in
    let slot : Slot = record { fill = fill.One tag.FiniteIntRange; least = 1; most = Some 1; over = over.Repeated } in
    let one = the_only k (rule_for tag.FiniteIntRangeConstant) slot refl x refl refl (ranges_there k had) shape in
    let c = one.0 in
    let tagged = fill_of k (fill.One tag.FiniteIntRange) c one.2 in
    let same = one_is k c.name tag.FiniteIntRange tagged.0 tagged.1 in
    let name = (tag_is k c.name (fill.One tag.FiniteIntRange) tagged.0 tagged.1).0 in
    let range = range_again k c (elements_shape k tag.FiniteIntRange c refl (subst (λ t. IsShaped k t c) same tagged.2)) in
    let start : start_in x ≡ number_at (codes "start") c = ap (λ xs. unwrap_or (option_map (number_at (codes "start")) (slice_get xs 0)) (pos 0)) one.1 in
    let end : end_in x ≡ number_at (codes "end") c = ap (λ xs. unwrap_or (option_map (number_at (codes "end")) (slice_get xs 0)) (pos 0)) one.1 in
    let r = range_element (start_in x) (end_in x) in
    let r_is : r ≡ range_element (number_at (codes "start") c) (number_at (codes "end") c) = λ i. range_element (start i) (end i) in
    let r_tag : tag_of k (codes "finiteintrange") (fill.One tag.FiniteIntRange) ≡ Some tag.FiniteIntRange = ap (λ n. tag_of k n (fill.One tag.FiniteIntRange)) (ap (λ t. (rule_for t).name) (sym same) ∙ name) ∙ tagged.1 ∙ ap Some same in
    let r_fills : fill_faults k (fill.One tag.FiniteIntRange) r ≡ [] =
    of_fill k (fill.One tag.FiniteIntRange) r tag.FiniteIntRange r_tag (shaped_elements k tag.FiniteIntRange r refl (subst (HasShape k (rule_for tag.FiniteIntRange)) (sym r_is) range.0)) in
    let written : Element → Element = λ part. r in
    let attrs = attribute (codes "value") (signed_decimal value) ∷ [] in (
      subst (λ xs. HasShape k (rule_for tag.FiniteIntRangeConstant) (made (codes "finiteintrangeconstant") attrs (map children.Element (map written xs)))) one.1
          (shape_with k (rule_for tag.FiniteIntRangeConstant) x written (codes "finiteintrangeconstant") attrs refl shape
          (subst (AllByRecursion (λ p. StandsFor k (rule_for tag.FiniteIntRangeConstant) p (written p))) (sym one.1) (stands_for_only k (rule_for tag.FiniteIntRangeConstant) slot refl c r one.2 r_fills, tt))
          (right_number value read, tt) (refl, tt)),
      ap (λ o. unwrap_or o (pos 0)) read,
      ap (λ xs. unwrap_or (option_map (number_at (codes "start")) (slice_get xs 0)) (pos 0)) (elements_again (r ∷ [])) ∙ ap (number_at (codes "start")) r_is ∙ range.1 ∙ sym start,
      ap (λ xs. unwrap_or (option_map (number_at (codes "end")) (slice_get xs 0)) (pos 0)) (elements_again (r ∷ [])) ∙ ap (number_at (codes "end")) r_is ∙ range.2 ∙ sym end,
    )

-- nets that have terms have sorts

pub basis_there : (k : Kind) → has_slot k fill.Term ≡ true → has_slot k fill.Basis ≡ true
unfolding rule_for has_slot
basis_there kind.PtNet had = absurd cc
basis_there kind.Symmetric had = refl
basis_there kind.HighLevel had = refl

sorts_there : (k : Kind) → has_slot k fill.Term ≡ true → has_slot k fill.Sort ≡ true
unfolding rule_for has_slot
sorts_there kind.PtNet had = absurd cc
sorts_there kind.Symmetric had = refl
sorts_there kind.HighLevel had = refl

-- an element named as an operator says it
pub operator_node : (o : Op) (e : Element) (arguments : List Term) → term_node (named (name_of o) e) arguments ≡ nodes.Apply (operator_named (name_of o)) arguments
operator_node op.DotConstant e arguments = refl
operator_node _ e arguments = refl

-- the sorts of numbers

number_sort_again : (sort : NumberSort) → number_sort_of (made (number_sort_name sort) [] []) ≡ sort
number_sort_again number_sorts.Integer = refl
number_sort_again number_sorts.Natural = refl
number_sort_again number_sorts.Positive = refl

abbrev number_tag : NumberSort → Tag
number_tag number_sorts.Integer = tag.OfIntegers
number_tag number_sorts.Natural = tag.OfNaturals
number_tag number_sorts.Positive = tag.OfPositives

number_sort_tag : (sort : NumberSort) (k : Kind) → is_had k tag.NumberConstant ≡ true → tag_of k (number_sort_name sort) fill.NumberSort ≡ Some (number_tag sort)
unfolding rule_for tag_of
number_sort_tag sort kind.PtNet had = absurd cc
number_sort_tag number_sorts.Integer kind.Symmetric had = refl
number_sort_tag number_sorts.Natural kind.Symmetric had = refl
number_sort_tag number_sorts.Positive kind.Symmetric had = refl
number_sort_tag number_sorts.Integer kind.HighLevel had = refl
number_sort_tag number_sorts.Natural kind.HighLevel had = refl
number_sort_tag number_sorts.Positive kind.HighLevel had = refl

pub number_sorts_there : (k : Kind) → is_had k tag.NumberConstant ≡ true → has_slot k fill.NumberSort ≡ true
unfolding rule_for has_slot
number_sorts_there kind.PtNet had = absurd cc
number_sorts_there kind.Symmetric had = refl
number_sorts_there kind.HighLevel had = refl

number_sort_row : (k : Kind) (sort : NumberSort) → IsShaped k (number_tag sort) (made (number_sort_name sort) [] [])
unfolding rule_for
number_sort_row k number_sorts.Integer = shaped_elements k tag.OfIntegers (made (codes "integer") [] []) refl (leaf_shape k (rule_for tag.OfIntegers) (codes "integer") [] refl refl tt tt)
number_sort_row k number_sorts.Natural = shaped_elements k tag.OfNaturals (made (codes "natural") [] []) refl (leaf_shape k (rule_for tag.OfNaturals) (codes "natural") [] refl refl tt tt)
number_sort_row k number_sorts.Positive = shaped_elements k tag.OfPositives (made (codes "positive") [] []) refl (leaf_shape k (rule_for tag.OfPositives) (codes "positive") [] refl refl tt tt)

number_sort_shaped : (k : Kind) (sort : NumberSort) → is_had k tag.NumberConstant ≡ true → fill_faults k fill.NumberSort (made (number_sort_name sort) [] []) ≡ []
number_sort_shaped k sort had = of_fill k fill.NumberSort (made (number_sort_name sort) [] []) (number_tag sort) (number_sort_tag sort k had) (number_sort_row k sort)

module _ (k : Kind) where
  -- what is to be shown: the term that the element spells is written without a fault of shape, and read back without offsets
  abbrev pub Returns : Element → Type 0
  Returns e = IsShapedTerm k (term_again e) × (term_read (term_again e) ≡ term_without_offsets (term_read e))

  -- an element that says this layer, where the element that is written for it is known
  returns : (e y : Element) (l : TermLayer) → roll-TermNode l ≡ term_node e (map term_in (child_elements e))
      → term_step (map-TermNode TermNode Term Element Element (fold-TermNode Element Element term_step (λ e. e.node)) term_element l) ≡ y
      → IsShapedTerm k y → y.at ≡ 0 → term_node y (map term_in (child_elements y)) ≡ roll-TermNode (bare_term_layer l) → Returns e
  returns e y l says written shaped origin reads = (
    subst (IsShapedTerm k) (sym again) shaped,
    ap term_read again ∙ term_read_is y ∙ (λ i. record { at = origin i; node = reads i })
        ∙ sym (ap term_without_offsets (term_read_is e) ∙ bare_term_at (term_of_parts e (map term_in (child_elements e))) l says),
  )
    where
      again : term_again e ≡ y
      again = ap term_element (term_read_is e) ∙ term_element_at (term_of_parts e (map term_in (child_elements e))) l says ∙ written

  -- what is to be shown of the term in an element
  abbrev PartsReturn : Element → Type 0
  PartsReturn x = AllByRecursion (λ y. IsShapedTerm k y → Returns y) (child_elements x)

  -- an element of a tag, of its name, whose parts have what is to be shown
  record IsTerm (t : Tag) (e : Element) : Type 0 where
    is : tag_of k (rule_for t).name fill.Term ≡ Some t
    had : is_had k t ≡ true
    terms : has_slot k fill.Term ≡ true
    shape : HasShape k (rule_for t) e
    parts : AllByRecursion PartsReturn (child_elements e)

  abbrev Step : Tag → Type 0
  Step t = (e : Element) → IsTerm t (named (rule_for t).name e) → Returns (named (rule_for t).name e)

  shaped_as : (t : Tag) (y : Element) → (rule_for t).content ≡ contents.Elements → tag_of k y.name fill.Term ≡ Some t → HasShape k (rule_for t) y → IsShapedTerm k y
  shaped_as t y content is shape = of_fill k fill.Term y t is (shaped_elements k t y content shape)

  -- ---- leaves

  step_variable : Step tag.Variable
  unfolding rule_for
  step_variable e s =
      let id = attribute_of (codes "refvariable") e in
      let y = attributed (codes "variable") (codes "refvariable") id in
      returns (named (codes "variable") e) y (layer.Variable id) (rolls-Variable id) refl
      (shaped_as tag.Variable y refl s.is (leaf_shape k (rule_for tag.Variable) (codes "variable") (attribute (codes "refvariable") id ∷ []) refl refl (refl, tt) (refl, tt)))
      refl (sym (rolls-Variable id))

  step_user : Step tag.UserOperator
  unfolding rule_for
  step_user e s =
      let id = attribute_of (codes "declaration") e in
      let y = attributed (codes "useroperator") (codes "declaration") id in
      returns (named (codes "useroperator") e) y (layer.UserOp id) (rolls-UserOp id) refl
      (shaped_as tag.UserOperator y refl s.is (leaf_shape k (rule_for tag.UserOperator) (codes "useroperator") (attribute (codes "declaration") id ∷ []) refl refl (refl, tt) (refl, tt)))
      refl (sym (rolls-UserOp id))

  step_string : Step tag.StringConstant
  unfolding rule_for
  step_string e s =
      let text = attribute_of (codes "value") e in
      let y = attributed (codes "stringconstant") (codes "value") text in
      returns (named (codes "stringconstant") e) y (layer.Text text) (rolls-Text text) refl
      (shaped_as tag.StringConstant y refl s.is (leaf_shape k (rule_for tag.StringConstant) (codes "stringconstant") (attribute (codes "value") text ∷ []) refl refl (refl, tt) (refl, tt)))
      refl (sym (rolls-Text text))

  truth_right : (b : Bool) → form_fault form.Truth (truth_text b) ≡ None
  truth_right true = refl
  truth_right false = refl

  truth_again : (b : Bool) → bytes_eq (truth_text b) (codes "true") ≡ b
  truth_again true = refl
  truth_again false = refl

  step_boolean : Step tag.BooleanConstant
  unfolding rule_for
  step_boolean e s =
      let truth = bytes_eq (attribute_of (codes "value") e) (codes "true") in
      let y = attributed (codes "booleanconstant") (codes "value") (truth_text truth) in
      returns (named (codes "booleanconstant") e) y (layer.Bool truth) (rolls-Bool truth) refl
      (shaped_as tag.BooleanConstant y refl s.is
      (leaf_shape k (rule_for tag.BooleanConstant) (codes "booleanconstant") (attribute (codes "value") (truth_text truth) ∷ []) refl refl (truth_right truth, tt) (refl, tt)))
      refl (ap nodes.Bool (truth_again truth) ∙ sym (rolls-Bool truth))

  -- ---- constants with their sort

  step_number : Step tag.NumberConstant
  unfolding rule_for
  step_number e s =
      let x = named (codes "numberconstant") e in
      let value = number_at (codes "value") e in
      let sort = number_sort_in x in
      let slot : Slot = record { fill = fill.NumberSort; least = 1; most = Some 1; over = over.Repeated } in
      let one = the_only k (rule_for tag.NumberConstant) slot refl x refl refl (number_sorts_there k s.had) s.shape in
      let read = number_of tag.NumberConstant x (codes "value") s.shape (needed_there e.attrs (record { name = names.Value; is_needed = true; form = form.Number }) s.shape.lacks.0 refl) (λ v. refl) in
      let written : Element → Element = λ part. made (number_sort_name sort) [] [] in
      let attrs = attribute (codes "value") (signed_decimal value) ∷ [] in
      let y = made (codes "numberconstant") attrs (map children.Element (map written (child_elements x))) in
      returns x y (layer.Number value sort) (rolls-Number value sort)
      (ap (λ ps. made (codes "numberconstant") attrs (map children.Element (map written ps))) (sym one.1))
      (shaped_as tag.NumberConstant y refl s.is
      (shape_with k (rule_for tag.NumberConstant) x written (codes "numberconstant") attrs refl s.shape
      (subst (AllByRecursion (λ p. StandsFor k (rule_for tag.NumberConstant) p (written p))) (sym one.1) (stands_for_only k (rule_for tag.NumberConstant) slot refl one.0 (written one.0) one.2 (number_sort_shaped k sort s.had), tt))
      (right_number value read, tt) (refl, tt)))
      refl
      ((λ i. nodes.Number (unwrap_or (read i) (pos 0)) (unwrap_or (option_map number_sort_of (slice_get ((elements_again (map written (child_elements x)) ∙ ap (map written) one.1) i) 0)) number_sorts.Integer))
      ∙ ap (nodes.Number value) (number_sort_again sort) ∙ sym (rolls-Number value sort))

  step_range_constant : Step tag.FiniteIntRangeConstant
  unfolding rule_for
  step_range_constant e s =
      let x = named (codes "finiteintrangeconstant") e in
      let back = range_constant_returns k x s.had s.shape in
      let value = number_at (codes "value") x in
      returns x (range_constant_again x) (layer.RangeConst value (start_in x) (end_in x)) (rolls-RangeConst value (start_in x) (end_in x)) refl
      (shaped_as tag.FiniteIntRangeConstant (range_constant_again x) refl s.is back.0)
      refl ((λ i. nodes.RangeConst (back.1 i) (back.2 i) (back.3 i)) ∙ sym (rolls-RangeConst value (start_in x) (end_in x)))

  step_all : Step tag.All
  unfolding rule_for
  step_all e s =
      let x = named (codes "all") e in
      let y = enclosing (codes "all") (sort_element (basis_in x)) in
      let back = basis_around k tag.All (codes "all") x refl refl refl (basis_there k s.terms) s.shape in
      returns x y (layer.All (basis_in x)) (rolls-All (basis_in x)) refl (shaped_as tag.All y refl s.is back.0) refl (ap nodes.All back.1 ∙ sym (rolls-All (sort_without_offsets (basis_in x))))

  step_empty : Step tag.Empty
  unfolding rule_for
  step_empty e s =
      let x = named (codes "empty") e in
      let y = enclosing (codes "empty") (sort_element (basis_in x)) in
      let back = basis_around k tag.Empty (codes "empty") x refl refl refl (basis_there k s.terms) s.shape in
      returns x y (layer.Empty (basis_in x)) (rolls-Empty (basis_in x)) refl (shaped_as tag.Empty y refl s.is back.0) refl (ap nodes.Empty back.1 ∙ sym (rolls-Empty (sort_without_offsets (basis_in x))))

  step_empty_list : Step tag.EmptyList
  unfolding rule_for
  step_empty_list e s =
      let x = named (codes "emptylist") e in
      let y = enclosing (codes "emptylist") (sort_element (sort_in x)) in
      let back = sort_around k tag.EmptyList (codes "emptylist") [] x refl refl (sorts_there k s.terms) s.shape tt tt in
      returns x y (layer.EmptyList (sort_in x)) (rolls-EmptyList (sort_in x)) refl (shaped_as tag.EmptyList y refl s.is back.0) refl (ap nodes.EmptyList back.1 ∙ sym (rolls-EmptyList (sort_without_offsets (sort_in x))))

  -- ---- arguments

  -- the term in a `subterm` returns, and its `subterm` stands in its place
  argument_returns : (says : Saying) → ((i : ℕ) (slot : Slot) → slice_get says.slots i ≡ Some slot → slot.fill ≡ fill.One tag.Subterm) → has_slot k fill.Term ≡ true
      → (x : Element) → Stands k says x → PartsReturn x → StandsFor k says x (subterm_again x) × (term_in (subterm_again x) ≡ term_without_offsets (term_in x))
  unfolding rule_for
  argument_returns says subterms terms x (s, is, shaped) parts =
      let place = spot_fills k x.name says.slots s is in
      let tagged = subst (λ f. tag_of k x.name f ≡ Some s.tag) (subterms s.place place.0 place.1) place.2 in
      let same = one_is k x.name tag.Subterm s.tag tagged in
      let name : codes "subterm" ≡ x.name = ap (λ t. (rule_for t).name) (sym same) ∙ (tag_is k x.name (fill.One tag.Subterm) s.tag tagged).0 in
      let shape = elements_shape k tag.Subterm x refl (subst (λ t. IsShaped k t x) same shaped) in
      let slot : Slot = record { fill = fill.Term; least = 1; most = Some 1; over = over.Repeated } in
      let one = the_only k (rule_for tag.Subterm) slot refl x refl refl terms shape in
      let back = (subst (AllByRecursion (λ y. IsShapedTerm k y → Returns y)) one.1 parts).0 one.2 in
      let read : term_in x ≡ term_read one.0 = ap (λ ys. unwrap_or (option_map term_read (slice_get ys 0)) no_term) one.1 in
      let written : Element → Element = λ y. term_element (term_in x) in
      let fills = subst (λ term. IsShapedTerm k (term_element term)) (sym read) back.0 in
      let again = shaped_elements k tag.Subterm (subterm_again x) refl
      (subst (λ ys. HasShape k (rule_for tag.Subterm) (made (codes "subterm") [] (map children.Element (map written ys)))) one.1
      (shape_with k (rule_for tag.Subterm) x written (codes "subterm") [] refl shape
      (subst (AllByRecursion (λ y. StandsFor k (rule_for tag.Subterm) y (written y))) (sym one.1) (stands_for_only k (rule_for tag.Subterm) slot refl one.0 (written one.0) one.2 fills, tt))
      tt tt)) in (
        (s, s, is, ap (λ n. spot_in k n 0 says.slots) name ∙ is, refl, subst (λ t. IsShaped k t (subterm_again x)) (sym same) again),
        ap (λ ys. unwrap_or (option_map term_read (slice_get ys 0)) no_term) (elements_again (written one.0 ∷ [])) ∙ ap (λ term. term_read (term_element term)) read ∙ back.1 ∙ ap term_without_offsets (sym read),
      )

  abbrev ArgumentReturns : Saying → Element → Type 0
  ArgumentReturns says x = StandsFor k says x (subterm_again x) × (term_in (subterm_again x) ≡ term_without_offsets (term_in x))

  arguments_return : (says : Saying) → ((i : ℕ) (slot : Slot) → slice_get says.slots i ≡ Some slot → slot.fill ≡ fill.One tag.Subterm) → has_slot k fill.Term ≡ true
      → (e : Element) → HasShape k says e → AllByRecursion PartsReturn (child_elements e) → AllByRecursion (ArgumentReturns says) (child_elements e)
  arguments_return says subterms terms e shape parts =
      each_both (Stands k says) PartsReturn (ArgumentReturns says) (λ x stands part. argument_returns says subterms terms x stands part) (child_elements e) (stand_among k says e.kids shape.kids) parts

  arguments_stand : (says : Saying) (xs : List Element) → AllByRecursion (ArgumentReturns says) xs → AllByRecursion (λ x. StandsFor k says x (subterm_again x)) xs
  arguments_stand says xs = each (ArgumentReturns says) (λ x. StandsFor k says x (subterm_again x)) (λ x back. back.0) xs

  arguments_read : (says : Saying) (xs : List Element) → AllByRecursion (ArgumentReturns says) xs
      → map term_in (elements_among (map children.Element (map subterm_again xs))) ≡ map term_without_offsets (map term_in xs)
  arguments_read says xs back =
      ap (map term_in) (elements_again (map subterm_again xs)) ∙ map-map term_in subterm_again xs
      ∙ map_each (λ x. term_in (subterm_again x)) (λ x. term_without_offsets (term_in x)) xs
      (each (ArgumentReturns says) (λ x. term_in (subterm_again x) ≡ term_without_offsets (term_in x)) (λ x one. one.1) xs back)
      ∙ sym (map-map term_without_offsets term_in xs)

  step_operator : (o : Op) → Step (tag.Operator o)
  unfolding rule_for
  step_operator o e s =
      let x = named (name_of o) e in
      let parts = child_elements x in
      let args = map term_in parts in
      let says = rule_for (tag.Operator o) in
      let back = arguments_return says (subterms_between (least_of o) (most_of o)) s.terms x s.shape s.parts in
      let y = made (name_of o) [] (map children.Element (map subterm_again parts)) in
      let operator = operator_by_own_name o in
      returns x y (layer.Apply o args) (rolls-Apply o args ∙ sym (operator_node o e args ∙ ap (λ p. nodes.Apply p args) operator))
      (ap (made (name_of o) []) (map-map subterm term_element args ∙ map-map (λ a. subterm (term_element a)) term_in parts ∙ sym (map-map children.Element subterm_again parts)))
      (shaped_as (tag.Operator o) y refl s.is (shape_with k says x subterm_again (name_of o) [] refl s.shape (arguments_stand says parts back) tt tt))
      refl
      (operator_node o y (map term_in (child_elements y)) ∙ (λ i. nodes.Apply (operator i) (arguments_read says parts back i)) ∙ sym (rolls-Apply o (map term_without_offsets args)))

  step_partition : Step tag.PartitionElementOf
  unfolding rule_for
  step_partition e s =
      let x = named (codes "partitionelementof") e in
      let parts = child_elements x in
      let says = rule_for tag.PartitionElementOf in
      let slot : Slot = record { fill = fill.One tag.Subterm; least = 1; most = Some 1; over = over.Repeated } in
      let one = the_only k says slot refl x refl refl (subterms_there k) s.shape in
      let back = arguments_return says (only_subterm slot refl) s.terms x s.shape s.parts in
      let id = attribute_of (codes "refpartition") x in
      let attrs = attribute (codes "refpartition") id ∷ [] in
      let y = made (codes "partitionelementof") attrs (map children.Element (map subterm_again parts)) in
      let here : first_term (map term_in parts) ≡ term_in one.0 = ap (λ ps. first_term (map term_in ps)) one.1 in
      returns x y (layer.PartitionOf id (term_in one.0)) (rolls-PartitionOf id (term_in one.0) ∙ ap (nodes.PartitionOf id) (sym here))
      (ap (λ ps. made (codes "partitionelementof") attrs (map children.Element (map subterm_again ps))) (sym one.1))
      (shaped_as tag.PartitionElementOf y refl s.is (shape_with k says x subterm_again (codes "partitionelementof") attrs refl s.shape (arguments_stand says parts back) (refl, tt) (refl, tt)))
      refl
      (ap (λ terms. nodes.PartitionOf id (first_term terms)) (arguments_read says parts back ∙ ap (λ ps. map term_without_offsets (map term_in ps)) one.1) ∙ sym (rolls-PartitionOf id (term_without_offsets (term_in one.0))))

  -- ---- all terms

  step_operators : (os : List Op) → AllByRecursion Step (map tag.Operator os)
  step_operators [] = tt
  step_operators (o ∷ os) = (step_operator o, step_operators os)

  steps : AllByRecursion Step (alternatives fill.Term)
  steps =
      (step_variable, (step_user, (step_boolean, (step_number, (step_range_constant, (step_partition, (step_all, (step_empty, (step_string, (step_empty_list, step_operators all_operators))))))))))

  operators_contain : (os : List Op) → AllByRecursion (λ t. (rule_for t).content ≡ contents.Elements) (map tag.Operator os)
  unfolding rule_for
  operators_contain [] = tt
  operators_contain (o ∷ os) = (refl, operators_contain os)

  contents_are : AllByRecursion (λ t. (rule_for t).content ≡ contents.Elements) (alternatives fill.Term)
  unfolding rule_for
  contents_are = (refl, (refl, (refl, (refl, (refl, (refl, (refl, (refl, (refl, (refl, operators_contain all_operators))))))))))

  -- an element of so many levels
  term_within_returns : (n : ℕ) (e : Element) → depth_of e ≤ n → IsShapedTerm k e → Returns e
  term_within_returns zero e deep shaped = absurd (omega (arith, some_levels e))
  term_within_returns (suc n) e deep shaped =
      let tagged = fill_of k fill.Term e shaped in
      let t = tagged.0 in
      let row = tag_is k e.name fill.Term t tagged.1 in
      let content = one_of (λ u. (rule_for u).content ≡ contents.Elements) (alternatives fill.Term) t contents_are row.2 in
      subst (λ name. Returns (named name e)) row.0
      (one_of Step (alternatives fill.Term) t steps row.2 e (record {
        is = ap (λ name. tag_of k name fill.Term) row.0 ∙ tagged.1;
        had = row.1;
        terms = place_there k fill.Term t row.2 row.1;
        shape = subst (λ name. HasShape k (rule_for t) (named name e)) (sym row.0) (elements_shape k t e content tagged.2);
        parts = each (λ x. depth_of x < depth_of e) PartsReturn
            (λ x less. each (λ y. depth_of y < depth_of x) (λ y. IsShapedTerm k y → Returns y) (λ y lesser is. term_within_returns n y (omega arith) is) (child_elements x) (shallower x))
            (child_elements e) (shallower e);
      }))

  pub term_returns : (e : Element) → IsShapedTerm k e → Returns e
  term_returns e shaped = term_within_returns (depth_of e) e (omega arith) shaped

-- terms that are equal but for offsets have one element

step_blind : (l : layer.TermNode-F Element Element) → term_step (with_bare_sort l) ≡ term_step l
step_blind (layer.Variable name) = refl
step_blind (layer.UserOp name) = refl
step_blind (layer.Bool truth) = refl
step_blind (layer.Number value sort) = refl
step_blind (layer.RangeConst value start end) = refl
step_blind (layer.Text text) = refl
step_blind (layer.All sort) = ap (enclosing (codes "all")) (of_bare_sort sort_step (λ n. n) sort)
step_blind (layer.Empty sort) = ap (enclosing (codes "empty")) (of_bare_sort sort_step (λ n. n) sort)
step_blind (layer.EmptyList sort) = ap (enclosing (codes "emptylist")) (of_bare_sort sort_step (λ n. n) sort)
step_blind (layer.PartitionOf partition arg) = refl
step_blind (layer.Apply op args) = refl

node_blind : (l : TermLayer) → node_without_offsets (with_bare_sort l) ≡ node_without_offsets l
node_blind (layer.Variable name) = refl
node_blind (layer.UserOp name) = refl
node_blind (layer.Bool truth) = refl
node_blind (layer.Number value sort) = refl
node_blind (layer.RangeConst value start end) = refl
node_blind (layer.Text text) = refl
node_blind (layer.All sort) = ap (λ s. roll-TermNode (layer.All s)) (sort_bare_twice sort)
node_blind (layer.Empty sort) = ap (λ s. roll-TermNode (layer.Empty s)) (sort_bare_twice sort)
node_blind (layer.EmptyList sort) = ap (λ s. roll-TermNode (layer.EmptyList s)) (sort_bare_twice sort)
node_blind (layer.PartitionOf partition arg) = refl
node_blind (layer.Apply op args) = refl

pub term_element_alike : (x y : Term) → term_without_offsets x ≡ term_without_offsets y → term_element x ≡ term_element y
term_element_alike x y alike = sym (of_bare_term term_step (λ n. n) step_blind x) ∙ ap term_element alike ∙ of_bare_term term_step (λ n. n) step_blind y

pub term_bare_twice : (x : Term) → term_without_offsets (term_without_offsets x) ≡ term_without_offsets x
term_bare_twice x = of_bare_term node_without_offsets (λ n. record { at = 0; node = n }) node_blind x

-- what is, offsets aside, the term that an element without a fault of shape spells is written without one
pub term_shaped_again : (k : Kind) (e : Element) (x : Term) → IsShapedTerm k e → term_without_offsets x ≡ term_without_offsets (term_read e) → IsShapedTerm k (term_element x)
term_shaped_again k e x shaped alike = subst (IsShapedTerm k) (sym (term_element_alike x (term_read e) alike)) (term_returns k e shaped).0

-- and reads back without its offsets
pub term_read_again : (k : Kind) (e : Element) (x : Term) → IsShapedTerm k e → term_without_offsets x ≡ term_without_offsets (term_read e) → term_read (term_element x) ≡ term_without_offsets x
term_read_again k e x shaped alike = ap term_read (term_element_alike x (term_read e) alike) ∙ (term_returns k e shaped).1 ∙ sym alike

pub term_same_again : (k : Kind) (e : Element) (x : Term) → IsShapedTerm k e → term_without_offsets x ≡ term_without_offsets (term_read e)
    → term_without_offsets (term_read (term_element x)) ≡ term_without_offsets x
term_same_again k e x shaped alike = ap term_without_offsets (term_read_again k e x shaped alike) ∙ term_bare_twice x
