-- The element that is written for a sort has no fault of shape, and reads back as the same sort.
use Rattle.pn_spelling.specs.ReadTerms.{basis_in, basis_of}
use Rattle.pn_tree.specs.declared.element.Attr.{Attr}
use Rattle.pn_facts.proofs.Truths.{and_left, and_right}
use Rattle.std.proofs.lemmas.Slice.Eq.{bytes_eq-Decides}
use Rattle.std.specs.Str.{bytes_eq}
use Rattle.std.proofs.Common.{◌≡◌, ℕ, zero, suc, ◌<◌, ◌≤◌, true, ℤ, pos, List, [], ◌∷◌, map, codes, Some, None, refl, sym, ap, subst, ◌∙◌, arith, cond, ◌&&◌, Bool, false}
use Rattle.std.specs.Prelude.{is_some}
use Rattle.pn_faults.specs.declared.reason.Reason.TheVariants as reason
use Rattle.std.specs.List.{AllByRecursion, slice_get}
use Rattle.std.specs.Option.{unwrap_or, option_map}
use Rattle.std.specs.Fmt.{signed_decimal}
use Rattle.std.proofs.lemmas.Simd.{map-map}
use Rattle.pn_operators.specs.declared.kind.Kind.{Kind}
use Rattle.pn_operators.specs.declared.kind.Kind.TheVariants as kind
use Rattle.pn_tree.specs.Depth.{depth_of}
use Rattle.pn_tree.specs.Elements.{attr_value}
use Rattle.pn_tree.specs.declared.element.Element.{Element}
use Rattle.pn_tree.specs.declared.element.Child.TheVariants as children
use Rattle.pn_tree.proofs.DepthLemmas.{some_levels}
use Rattle.pn_syntax.specs.Offsets.{at_zero, sort_without_offsets}
use Rattle.pn_syntax.specs.declared.sort_expr.SortExpr.{SortExpr}
use Rattle.pn_syntax.specs.declared.sort_expr.SortNode.{SortNode, map-SortNode}
use Rattle.pn_syntax.specs.declared.sort_expr.SortNode.TheOpen as layer
use Rattle.pn_syntax.specs.declared.sort_expr.SortNode.TheVariants as nodes
use Rattle.pn_syntax.specs.declared.sort_expr.SortNode.TheVariants.{rolls-Dot, rolls-Bool, rolls-Range, rolls-Product, rolls-User, rolls-Integer, rolls-Natural, rolls-Positive, rolls-Text, rolls-List}
use Rattle.pn_syntax.specs.declared.sort_expr.SortNode.TheViews.{roll-SortNode, out-SortNode, out-roll-SortNode}
use Rattle.pn_syntax.specs.declared.sort_expr.SortNode.TheFolds.{fold-SortNode, fold_out-SortExpr}
use Rattle.pn_shape.specs.Attributes.{form_fault, lack_fault, rule_named, ruled_fault, unless, attr_fault}
use Rattle.pn_shape.specs.Faults.{IsShapedSort, fill_faults, IsShaped}
use Rattle.pn_shape.specs.Numbers.{number_in}
use Rattle.pn_shape.specs.Rules.{alternatives, is_had, rule_for}
use Rattle.pn_shape.specs.Shaped.{HasShape}
use Rattle.pn_shape.specs.Spots.{has_slot, tag_of}
use Rattle.pn_shape.specs.declared.rule.AttrName.TheVariants as names
use Rattle.pn_shape.specs.declared.rule.Content.TheVariants as contents
use Rattle.pn_shape.specs.declared.rule.Fill.TheVariants as fill
use Rattle.pn_shape.specs.declared.rule.Form.TheVariants as form
use Rattle.pn_shape.specs.declared.rule.Over.TheVariants as over
use Rattle.pn_shape.specs.declared.rule.Slot.{Slot}
use Rattle.pn_shape.specs.declared.tag.Tag.{Tag}
use Rattle.pn_shape.specs.declared.tag.Tag.TheVariants as tag
use Rattle.pn_shape.proofs.AttrLemmas.{needed_there, number_there, value_right}
use Rattle.pn_shape.proofs.PlaceLemmas.{fill_of, of_fill, tag_is}
use Rattle.pn_spelling.specs.Parts.{attribute_of, child_elements, elements_among, number_at}
use Rattle.pn_spelling.specs.ReadSorts.{first_sort, sort_node, sort_read, no_sort, sort_in}
use Rattle.pn_spelling.specs.Writing.{attribute, attributed, made, enclosing}
use Rattle.pn_spelling.specs.WriteSorts.{range_element, sort_element, sort_step}
use Rattle.pn_spelling.proofs.ReadLemmas.{sort_of_parts, sort_read_is}
use Rattle.pn_spelling.proofs.WriteLemmas.{sort_at}
use Rattle.pn_facts.proofs.Each.{each, each_both, map_each, one_of}
use Rattle.pn_round_trip.proofs.KidLemmas.{StandsFor, all_fill, leaf_shape, elements_again, elements_shape, place_there, shaped_elements, shallower, shape_with, stands_for_only, the_only}
use Rattle.pn_round_trip.proofs.NumberLemmas.{number_again}
use Rattle.pn_round_trip.proofs.OffsetLemmas.{SortLayer, bare_sort_layer, bare_sort_node, bare_sort_rolled, of_bare_sort}

-- the element of what an element spells
abbrev pub sort_again : Element → Element
sort_again e = sort_element (sort_read e)

pub sort_element_at : (e : SortExpr) (l : SortLayer) → roll-SortNode l ≡ e.node
    → sort_element e ≡ sort_step (map-SortNode SortNode SortExpr Element Element (fold-SortNode Element Element sort_step (λ e. e.node)) sort_element l)
sort_element_at e l is = sort_at e l (ap out-SortNode (sym is) ∙ out-roll-SortNode l)

pub bare_sort_at : (e : SortExpr) (l : SortLayer) → roll-SortNode l ≡ e.node → sort_without_offsets e ≡ record { at = 0; node = roll-SortNode (bare_sort_layer l) }
bare_sort_at e l is =
    fold_out-SortExpr SortNode SortExpr roll-SortNode at_zero e
    ∙ ap (λ n. at_zero (record { at = e.at; node = bare_sort_node n })) (sym is)
    ∙ ap (λ n. record { at = 0; node = n }) (bare_sort_rolled l)

-- the element has this name
abbrev pub named : List ℕ → Element → Element
named name e = record { name = name; at = e.at; attrs = e.attrs; kids = e.kids }

-- a number that is asked for is read again from what is written of it
pub number_of : (t : Tag) (e : Element) (name : List ℕ) {k : Kind} → HasShape k (rule_for t) e → (v : List ℕ) × (attr_value name e.attrs ≡ Some v)
    → ((v : List ℕ) → ruled_fault (rule_named name (rule_for t).attrs) name v ≡ form_fault form.Number v) → number_in (signed_decimal (number_at name e)) ≡ Some (number_at name e)
number_of t e name shape value ruled =
    let number = number_there value.0 (sym (ruled value.0) ∙ value_right (rule_for t).attrs e.attrs name value.0 shape.attrs value.1) in
    let is : number_at name e ≡ number.0 = ap (λ o. unwrap_or (number_in (unwrap_or o [])) (pos 0)) value.1 ∙ ap (λ o. unwrap_or o (pos 0)) number.1 in
    subst (λ z. number_in (signed_decimal z) ≡ Some z) (sym is) (number_again value.0 number.0 number.1)

pub right_number : (z : ℤ) → number_in (signed_decimal z) ≡ Some z → form_fault form.Number (signed_decimal z) ≡ None
right_number z is = ap (λ o. unless (is_some o) reason.BadNumber) is

-- a range is written again as it was read
pub range_again : (k : Kind) (e : Element) → HasShape k (rule_for tag.FiniteIntRange) e
    → HasShape k (rule_for tag.FiniteIntRange) (range_element (number_at (codes "start") e) (number_at (codes "end") e))
    × (number_at (codes "start") (range_element (number_at (codes "start") e) (number_at (codes "end") e)) ≡ number_at (codes "start") e)
    × (number_at (codes "end") (range_element (number_at (codes "start") e) (number_at (codes "end") e)) ≡ number_at (codes "end") e)
unfolding rule_for
range_again k e shape =
    let start = number_of tag.FiniteIntRange e (codes "start") shape (needed_there e.attrs (record { name = names.Start; is_needed = true; form = form.Number }) shape.lacks.0 refl) (λ v. refl) in
    let end = number_of tag.FiniteIntRange e (codes "end") shape (needed_there e.attrs (record { name = names.End; is_needed = true; form = form.Number }) shape.lacks.1.0 refl) (λ v. refl) in
    let first = number_at (codes "start") e in
    let last = number_at (codes "end") e in
    let y = range_element first last in (
      leaf_shape k (rule_for tag.FiniteIntRange) (codes "finiteintrange") y.attrs refl refl (right_number first start, (right_number last end, tt)) (refl, (refl, tt)),
      ap (λ o. unwrap_or o (pos 0)) start,
      ap (λ o. unwrap_or o (pos 0)) end,
    )

module _ (k : Kind) where
  -- what is to be shown: the sort that the element spells is written without a fault of shape, and read back without offsets
  abbrev pub Returns : Element → Type 0
  Returns e = IsShapedSort k (sort_again e) × (sort_read (sort_again e) ≡ sort_without_offsets (sort_read e))

  -- an element that says this layer, where the element that is written for it is known
  returns : (e y : Element) (l : SortLayer) → roll-SortNode l ≡ sort_node e (map sort_read (child_elements e))
      → sort_step (map-SortNode SortNode SortExpr Element Element (fold-SortNode Element Element sort_step (λ e. e.node)) sort_element l) ≡ y
      → IsShapedSort k y → y.at ≡ 0 → sort_node y (map sort_read (child_elements y)) ≡ roll-SortNode (bare_sort_layer l) → Returns e
  returns e y l says written shaped origin reads = (
    subst (IsShapedSort k) (sym again) shaped,
    ap sort_read again ∙ sort_read_is y ∙ (λ i. record { at = origin i; node = reads i })
        ∙ sym (ap sort_without_offsets (sort_read_is e) ∙ bare_sort_at (sort_of_parts e (map sort_read (child_elements e))) l says),
  )
    where
      again : sort_again e ≡ y
      again = ap sort_element (sort_read_is e) ∙ sort_element_at (sort_of_parts e (map sort_read (child_elements e))) l says ∙ written

  read_again : (xs : List Element) → AllByRecursion Returns xs → map sort_read (elements_among (map children.Element (map sort_again xs))) ≡ map sort_without_offsets (map sort_read xs)
  read_again xs again =
      ap (map sort_read) (elements_again (map sort_again xs)) ∙ map-map sort_read sort_again xs
      ∙ map_each (λ x. sort_read (sort_again x)) (λ x. sort_without_offsets (sort_read x)) xs (each Returns (λ x. sort_read (sort_again x) ≡ sort_without_offsets (sort_read x)) (λ x back. back.1) xs again)
      ∙ sym (map-map sort_without_offsets sort_read xs)

  -- an element of a tag, of its name, whose parts have what is to be shown
  record IsSort (t : Tag) (e : Element) : Type 0 where
    is : tag_of k (rule_for t).name fill.Sort ≡ Some t
    sorts : has_slot k fill.Sort ≡ true
    shape : HasShape k (rule_for t) e
    parts : AllByRecursion (λ x. IsShapedSort k x → Returns x) (child_elements e)

  abbrev Step : Tag → Type 0
  Step t = (e : Element) → IsSort t (named (rule_for t).name e) → Returns (named (rule_for t).name e)

  shaped_as : (t : Tag) (y : Element) → (rule_for t).content ≡ contents.Elements → tag_of k y.name fill.Sort ≡ Some t → HasShape k (rule_for t) y → IsShapedSort k y
  shaped_as t y content is shape = of_fill k fill.Sort y t is (shaped_elements k t y content shape)

  -- a sort without attributes and parts
  step_bare : (t : Tag) (name : List ℕ) (l : SortLayer) (n : SortNode) (e : Element) → (rule_for t).name ≡ name → (rule_for t).content ≡ contents.Elements → (rule_for t).slots ≡ [] → (rule_for t).attrs ≡ []
      → roll-SortNode l ≡ n → sort_node (named name e) (map sort_read (child_elements e)) ≡ n → sort_node (made name [] []) [] ≡ n → bare_sort_layer l ≡ l
      → sort_step (map-SortNode SortNode SortExpr Element Element (fold-SortNode Element Element sort_step (λ e. e.node)) sort_element l) ≡ made name [] []
      → IsSort t (named name e) → Returns (named name e)
  step_bare t name l n e called content no_slots no_attrs rolls says reads clear written s =
      returns (named name e) (made name [] []) l (rolls ∙ sym says) written
      (shaped_as t (made name [] []) content (ap (λ m. tag_of k m fill.Sort) (sym called) ∙ s.is)
      (leaf_shape k (rule_for t) name [] content no_slots tt (subst (AllByRecursion (λ r. lack_fault [] r ≡ None)) (sym no_attrs) tt)))
      refl (reads ∙ sym rolls ∙ ap roll-SortNode (sym clear))

  step_dot : Step tag.Dot
  unfolding rule_for
  step_dot e s = step_bare tag.Dot (codes "dot") layer.Dot nodes.Dot e refl refl refl refl rolls-Dot refl refl refl refl s

  step_bool : Step tag.Bool
  unfolding rule_for
  step_bool e s = step_bare tag.Bool (codes "bool") layer.Bool nodes.Bool e refl refl refl refl rolls-Bool refl refl refl refl s

  step_integer : Step tag.Integer
  unfolding rule_for
  step_integer e s = step_bare tag.Integer (codes "integer") layer.Integer nodes.Integer e refl refl refl refl rolls-Integer refl refl refl refl s

  step_natural : Step tag.Natural
  unfolding rule_for
  step_natural e s = step_bare tag.Natural (codes "natural") layer.Natural nodes.Natural e refl refl refl refl rolls-Natural refl refl refl refl s

  step_positive : Step tag.Positive
  unfolding rule_for
  step_positive e s = step_bare tag.Positive (codes "positive") layer.Positive nodes.Positive e refl refl refl refl rolls-Positive refl refl refl refl s

  step_string : Step tag.StringSort
  unfolding rule_for
  step_string e s = step_bare tag.StringSort (codes "string") layer.Text nodes.Text e refl refl refl refl rolls-Text refl refl refl refl s

  step_user : Step tag.UserSort
  unfolding rule_for
  step_user e s =
      let id = attribute_of (codes "declaration") e in
      let y = attributed (codes "usersort") (codes "declaration") id in
      returns (named (codes "usersort") e) y (layer.User id) (rolls-User id) refl
      (shaped_as tag.UserSort y refl s.is (leaf_shape k (rule_for tag.UserSort) (codes "usersort") (attribute (codes "declaration") id ∷ []) refl refl (refl, tt) (refl, tt)))
      refl (sym (rolls-User id))

  -- the numbers of a range
  step_range : Step tag.FiniteIntRange
  unfolding rule_for
  step_range e s =
      let x = named (codes "finiteintrange") e in
      let again = range_again k x s.shape in
      let first = number_at (codes "start") e in
      let last = number_at (codes "end") e in
      returns x (range_element first last) (layer.Range first last) (rolls-Range first last) refl
      (shaped_as tag.FiniteIntRange (range_element first last) refl s.is again.0)
      refl
      ((λ i. nodes.Range (again.1 i) (again.2 i)) ∙ sym (rolls-Range first last))

  -- the parts of a product
  step_product : Step tag.ProductSort
  unfolding rule_for
  step_product e s =
      let x = named (codes "productsort") e in
      let parts = child_elements x in
      let y = made (codes "productsort") [] (map children.Element (map sort_again parts)) in
      let slot : Slot = record { fill = fill.Sort; least = 1; most = None; over = over.Repeated } in
      let shaped = all_fill k (rule_for tag.ProductSort) slot refl x s.shape in
      let again = each_both (IsShapedSort k) (λ p. IsShapedSort k p → Returns p) Returns (λ p is step. step is) parts shaped s.parts in
      returns x y (layer.Product (map sort_read parts)) (rolls-Product (map sort_read parts))
      (ap (λ ps. made (codes "productsort") [] (map children.Element ps)) (map-map sort_element sort_read parts))
      (shaped_as tag.ProductSort y refl s.is
      (shape_with k (rule_for tag.ProductSort) x sort_again (codes "productsort") [] refl s.shape
      (each_both (IsShapedSort k) Returns (λ p. StandsFor k (rule_for tag.ProductSort) p (sort_again p)) (λ p is back. stands_for_only k (rule_for tag.ProductSort) slot refl p (sort_again p) is back.0) parts shaped again)
      tt tt))
      refl
      (ap nodes.Product (read_again parts again) ∙ sym (rolls-Product (map sort_without_offsets (map sort_read parts))))

  -- the part of a list
  step_list : Step tag.ListSort
  unfolding rule_for
  step_list e s =
      let x = named (codes "list") e in
      let slot : Slot = record { fill = fill.Sort; least = 1; most = Some 1; over = over.Repeated } in
      let one = the_only k (rule_for tag.ListSort) slot refl x refl refl s.sorts s.shape in
      let part = one.0 in
      let y = made (codes "list") [] (map children.Element (map sort_again (child_elements x))) in
      let again = (subst (AllByRecursion (λ p. IsShapedSort k p → Returns p)) one.1 s.parts).0 one.2 in
      let here = ap (λ ps. first_sort (map sort_read ps)) one.1 in
      returns x y (layer.List (sort_read part)) (rolls-List (sort_read part) ∙ ap nodes.List (sym here))
      (ap (λ ps. made (codes "list") [] (map children.Element (map sort_again ps))) (sym one.1))
      (shaped_as tag.ListSort y refl s.is
      (shape_with k (rule_for tag.ListSort) x sort_again (codes "list") [] refl s.shape
      (subst (AllByRecursion (λ p. StandsFor k (rule_for tag.ListSort) p (sort_again p))) (sym one.1) (stands_for_only k (rule_for tag.ListSort) slot refl part (sort_again part) one.2 again.0, tt))
      tt tt))
      refl
      (ap (λ ps. nodes.List (first_sort (map sort_read ps))) (elements_again (map sort_again (child_elements x)) ∙ ap (map sort_again) one.1) ∙ ap nodes.List again.1 ∙ sym (rolls-List (sort_without_offsets (sort_read part))))

  steps : AllByRecursion Step (alternatives fill.Sort)
  steps = (step_dot, (step_bool, (step_range, (step_product, (step_user, (step_integer, (step_natural, (step_positive, (step_string, (step_list, tt))))))))))

  contents_are : AllByRecursion (λ t. (rule_for t).content ≡ contents.Elements) (alternatives fill.Sort)
  unfolding rule_for
  contents_are = (refl, (refl, (refl, (refl, (refl, (refl, (refl, (refl, (refl, (refl, tt))))))))))

  -- an element of so many levels
  sort_within_returns : (n : ℕ) (e : Element) → depth_of e ≤ n → IsShapedSort k e → Returns e
  sort_within_returns zero e deep shaped = absurd (omega (arith, some_levels e))
  sort_within_returns (suc n) e deep shaped =
      let tagged = fill_of k fill.Sort e shaped in
      let t = tagged.0 in
      let row = tag_is k e.name fill.Sort t tagged.1 in
      let content = one_of (λ u. (rule_for u).content ≡ contents.Elements) (alternatives fill.Sort) t contents_are row.2 in
      subst (λ name. Returns (named name e)) row.0
      (one_of Step (alternatives fill.Sort) t steps row.2 e (record {
        is = ap (λ name. tag_of k name fill.Sort) row.0 ∙ tagged.1;
        sorts = place_there k fill.Sort t row.2 row.1;
        shape = subst (λ name. HasShape k (rule_for t) (named name e)) (sym row.0) (elements_shape k t e content tagged.2);
        parts = each (λ x. depth_of x < depth_of e) (λ x. IsShapedSort k x → Returns x) (λ x less is. sort_within_returns n x (omega arith) is) (child_elements e) (shallower e);
      }))

  pub sort_returns : (e : Element) → IsShapedSort k e → Returns e
  sort_returns e shaped = sort_within_returns (depth_of e) e (omega arith) shaped

-- sorts that are equal but for offsets have one element
pub sort_element_alike : (x y : SortExpr) → sort_without_offsets x ≡ sort_without_offsets y → sort_element x ≡ sort_element y
sort_element_alike x y alike = sym (of_bare_sort sort_step (λ n. n) x) ∙ ap sort_element alike ∙ of_bare_sort sort_step (λ n. n) y

pub sort_bare_twice : (x : SortExpr) → sort_without_offsets (sort_without_offsets x) ≡ sort_without_offsets x
sort_bare_twice x = of_bare_sort roll-SortNode (λ n. record { at = 0; node = n }) x

-- what is, offsets aside, the sort that an element without a fault of shape spells is written without one
pub sort_shaped_again : (k : Kind) (e : Element) (x : SortExpr) → IsShapedSort k e → sort_without_offsets x ≡ sort_without_offsets (sort_read e) → IsShapedSort k (sort_element x)
sort_shaped_again k e x shaped alike = subst (IsShapedSort k) (sym (sort_element_alike x (sort_read e) alike)) (sort_returns k e shaped).0

-- and reads back without its offsets
pub sort_read_again : (k : Kind) (e : Element) (x : SortExpr) → IsShapedSort k e → sort_without_offsets x ≡ sort_without_offsets (sort_read e) → sort_read (sort_element x) ≡ sort_without_offsets x
sort_read_again k e x shaped alike = ap sort_read (sort_element_alike x (sort_read e) alike) ∙ (sort_returns k e shaped).1 ∙ sym alike

pub sort_same_again : (k : Kind) (e : Element) (x : SortExpr) → IsShapedSort k e → sort_without_offsets x ≡ sort_without_offsets (sort_read e)
    → sort_without_offsets (sort_read (sort_element x)) ≡ sort_without_offsets x
sort_same_again k e x shaped alike = ap sort_without_offsets (sort_read_again k e x shaped alike) ∙ sort_bare_twice x

-- the sort in an element that has a place for one, with other attributes
pub sort_around : (k : Kind) (t : Tag) (name : List ℕ) (attrs : List Attr) (x : Element) → (rule_for t).content ≡ contents.Elements
    → (rule_for t).slots ≡ record { fill = fill.Sort; least = 1; most = Some 1; over = over.Repeated } ∷ [] → has_slot k fill.Sort ≡ true → HasShape k (rule_for t) x
    → AllByRecursion (λ a. attr_fault (rule_for t).attrs a ≡ None) attrs → AllByRecursion (λ r. lack_fault attrs r ≡ None) (rule_for t).attrs
    → HasShape k (rule_for t) (made name attrs (children.Element (sort_element (sort_in x)) ∷ []))
    × (sort_in (made name attrs (children.Element (sort_element (sort_in x)) ∷ [])) ≡ sort_without_offsets (sort_in x))
sort_around k t name attrs x content only had shape no_fault no_lack =
    let slot : Slot = record { fill = fill.Sort; least = 1; most = Some 1; over = over.Repeated } in
    let one = the_only k (rule_for t) slot only x refl refl had shape in
    let back = sort_returns k one.0 one.2 in
    let read : sort_in x ≡ sort_read one.0 = ap (λ xs. unwrap_or (option_map sort_read (slice_get xs 0)) no_sort) one.1 in
    let written : Element → Element = λ part. sort_element (sort_in x) in
    let fills = subst (λ sort. IsShapedSort k (sort_element sort)) (sym read) back.0 in (
      subst (λ xs. HasShape k (rule_for t) (made name attrs (map children.Element (map written xs)))) one.1
          (shape_with k (rule_for t) x written name attrs content shape
          (subst (AllByRecursion (λ p. StandsFor k (rule_for t) p (written p))) (sym one.1) (stands_for_only k (rule_for t) slot only one.0 (written one.0) one.2 fills, tt))
          no_fault no_lack),
      ap (λ xs. unwrap_or (option_map sort_read (slice_get xs 0)) no_sort) (elements_again (written one.0 ∷ [])) ∙ ap (λ sort. sort_read (sort_element sort)) read ∙ back.1 ∙ ap sort_without_offsets (sym read),
    )

-- the sort in an element that has a place for a basis

-- what holds of the names of all sorts holds of that of an element that is one
pub sort_name : (P : List ℕ → Type 0) → AllByRecursion (λ t. P (rule_for t).name) (alternatives fill.Sort) → (k : Kind) (y : Element) → IsShapedSort k y → P y.name
sort_name P all k y shaped =
    let tagged = fill_of k fill.Sort y shaped in
    let row = tag_is k y.name fill.Sort tagged.0 tagged.1 in
    subst P row.0 (one_of (λ t. P (rule_for t).name) (alternatives fill.Sort) tagged.0 all row.2)

abbrev NoMultiset : List ℕ → Type 0
NoMultiset name = (bytes_eq name (codes "multisetsort") ≡ false) × (bytes_eq (codes "multisetsort") name ≡ false)

other_name : (k : Kind) (y : Element) → IsShapedSort k y → NoMultiset y.name
unfolding rule_for
other_name = sort_name NoMultiset ((refl, refl), ((refl, refl), ((refl, refl), ((refl, refl), ((refl, refl), ((refl, refl), ((refl, refl), ((refl, refl), ((refl, refl), ((refl, refl), tt))))))))))

basis_tag_of : (k : Kind) (name : List ℕ) → tag_of k name fill.Basis ≡ cond (bytes_eq (codes "multisetsort") name && is_had k tag.MultisetSort) (Some tag.MultisetSort) (tag_of k name fill.Sort)
unfolding tag_of rule_for
basis_tag_of k name = refl

sort_is_basis : (k : Kind) (y : Element) → IsShapedSort k y → fill_faults k fill.Basis y ≡ []
sort_is_basis k y shaped =
    let tagged = fill_of k fill.Sort y shaped in
    of_fill k fill.Basis y tagged.0
    (basis_tag_of k y.name ∙ ap (λ b. cond (b && is_had k tag.MultisetSort) (Some tag.MultisetSort) (tag_of k y.name fill.Sort)) (other_name k y shaped).1 ∙ tagged.1) tagged.2

multisets_hold_sorts : (k : Kind) → is_had k tag.MultisetSort ≡ true → has_slot k fill.Sort ≡ true
unfolding rule_for has_slot
multisets_hold_sorts kind.PtNet had = absurd cc
multisets_hold_sorts kind.Symmetric had = refl
multisets_hold_sorts kind.HighLevel had = refl

multiset_row : ((rule_for tag.MultisetSort).name ≡ codes "multisetsort") × ((rule_for tag.MultisetSort).content ≡ contents.Elements)
    × ((rule_for tag.MultisetSort).slots ≡ record { fill = fill.Sort; least = 1; most = Some 1; over = over.Repeated } ∷ [])
unfolding rule_for
multiset_row = (refl, refl, refl)

basis_is_sort : (k : Kind) (x : Element) → fill_faults k fill.Basis x ≡ [] → (z : Element) × IsShapedSort k z × (basis_of x ≡ sort_read z)
basis_is_sort k x fills =
    let tagged = fill_of k fill.Basis x fills in
    by (bytes_eq (codes "multisetsort") x.name && is_had k tag.MultisetSort) refl tagged.0 (sym (basis_tag_of k x.name) ∙ tagged.1) tagged.2
  where
    by : (b : Bool) → (bytes_eq (codes "multisetsort") x.name && is_had k tag.MultisetSort) ≡ b → (t : Tag) → cond b (Some tag.MultisetSort) (tag_of k x.name fill.Sort) ≡ Some t → IsShaped k t x
        → (z : Element) × IsShapedSort k z × (basis_of x ≡ sort_read z)
    by true is t found shaped =
        let same : tag.MultisetSort ≡ t = cc in
        let slot : Slot = record { fill = fill.Sort; least = 1; most = Some 1; over = over.Repeated } in
        let named_so = (bytes_eq-Decides (codes "multisetsort") x.name).0 (and_left (bytes_eq (codes "multisetsort") x.name) (is_had k tag.MultisetSort) is) in
        let had = multisets_hold_sorts k (and_right (bytes_eq (codes "multisetsort") x.name) (is_had k tag.MultisetSort) is) in
        let shape = elements_shape k tag.MultisetSort x multiset_row.1 (subst (λ u. IsShaped k u x) (sym same) shaped) in
        let one = the_only k (rule_for tag.MultisetSort) slot multiset_row.2 x refl refl had shape in (
          one.0,
          one.2,
          ap (λ name. cond (bytes_eq name (codes "multisetsort")) (sort_in x) (sort_read x)) (sym named_so) ∙ ap (λ xs. unwrap_or (option_map sort_read (slice_get xs 0)) no_sort) one.1,
        )
    by false is t found shaped =
        let sort = of_fill k fill.Sort x t found shaped in
        (x, sort, ap (λ b. cond b (sort_in x) (sort_read x)) (other_name k x sort).0)

pub basis_around : (k : Kind) (t : Tag) (name : List ℕ) (x : Element) → (rule_for t).content ≡ contents.Elements
    → (rule_for t).slots ≡ record { fill = fill.Basis; least = 1; most = Some 1; over = over.Repeated } ∷ [] → (rule_for t).attrs ≡ [] → has_slot k fill.Basis ≡ true → HasShape k (rule_for t) x
    → HasShape k (rule_for t) (enclosing name (sort_element (basis_in x))) × (basis_in (enclosing name (sort_element (basis_in x))) ≡ sort_without_offsets (basis_in x))
basis_around k t name x content only bare had shape =
    let slot : Slot = record { fill = fill.Basis; least = 1; most = Some 1; over = over.Repeated } in
    let one = the_only k (rule_for t) slot only x refl refl had shape in
    let base = basis_is_sort k one.0 one.2 in
    let back = sort_returns k base.0 base.1 in
    let read : basis_in x ≡ sort_read base.0 = ap (λ xs. unwrap_or (option_map basis_of (slice_get xs 0)) no_sort) one.1 ∙ base.2 in
    let written : Element → Element = λ part. sort_element (basis_in x) in
    let sort = subst (λ sort. IsShapedSort k (sort_element sort)) (sym read) back.0 in (
      subst (λ xs. HasShape k (rule_for t) (made name [] (map children.Element (map written xs)))) one.1
          (shape_with k (rule_for t) x written name [] content shape
          (subst (AllByRecursion (λ p. StandsFor k (rule_for t) p (written p))) (sym one.1) (stands_for_only k (rule_for t) slot only one.0 (written one.0) one.2 (sort_is_basis k (written one.0) sort), tt))
          tt (subst (AllByRecursion (λ r. lack_fault [] r ≡ None)) (sym bare) tt)),
      ap (λ xs. unwrap_or (option_map basis_of (slice_get xs 0)) no_sort) (elements_again (written one.0 ∷ []))
          ∙ ap (λ b. cond b (sort_in (written one.0)) (sort_read (written one.0))) (other_name k (written one.0) sort).0
          ∙ ap (λ sort. sort_read (sort_element sort)) read ∙ back.1 ∙ ap sort_without_offsets (sym read),
    )
