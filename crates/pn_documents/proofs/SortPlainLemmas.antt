-- The sort that is written for a sort can be written in high-level nets: its element has no fault of shape and few levels, and is read back.
use Rattle.std.proofs.Common.{◌≡◌, ℕ, zero, suc, ◌<◌, ◌≤◌, Bool, true, ◌&&◌, nat_lt, int_le, ℤ, pos, negsuc, List, [], ◌∷◌, map, length, codes, Some, None, refl, sym, ap, subst, ◌∙◌, arith}
use Rattle.std.specs.List.{AllByRecursion, list_all}
use Rattle.std.specs.Option.{unwrap_or}
use Rattle.std.proofs.lemmas.Bool.{false≢true}
use Rattle.std.proofs.lemmas.Bool.Decides.{nat_tests}
use Rattle.std.proofs.lemmas.List.{length-map}
use Rattle.pn_carriers.specs.Members.{greatest_number, least_number}
use Rattle.pn_facts.proofs.Truths.{and_left, and_right}
use Rattle.pn_operators.specs.declared.kind.Kind.TheVariants as kinds
use Rattle.pn_text.specs.Characters.{is_name, is_text}
use Rattle.pn_tree.specs.Elements.{is_element}
use Rattle.pn_tree.specs.declared.element.Child.TheVariants as children
use Rattle.pn_tree.specs.declared.element.Element.{Element}
use Rattle.pn_syntax.specs.declared.declaration.Declaration.{Declaration}
use Rattle.pn_syntax.specs.declared.sort_expr.SortExpr.{SortExpr}
use Rattle.pn_syntax.specs.declared.sort_expr.SortNode.{SortNode}
use Rattle.pn_syntax.specs.declared.sort_expr.SortNode.TheOpen as written_layer
use Rattle.pn_syntax.specs.declared.sort_expr.SortNode.TheVariants as written
use Rattle.pn_shape.proofs.DecimalLemmas.{natural_decimal, negative_decimal}
use Rattle.pn_shape.proofs.PlaceLemmas.{of_fill}
use Rattle.pn_shape.specs.Attributes.{lack_fault}
use Rattle.pn_shape.specs.Faults.{IsShapedSort, fill_faults}
use Rattle.pn_shape.specs.Rules.{rule_for}
use Rattle.pn_shape.specs.Shaped.{HasShape}
use Rattle.pn_shape.specs.Spots.{tag_of}
use Rattle.pn_shape.specs.declared.rule.Content.TheVariants as contents
use Rattle.pn_shape.specs.declared.rule.Fill.TheVariants as fill
use Rattle.pn_shape.specs.declared.rule.Over.TheVariants as over
use Rattle.pn_shape.specs.declared.rule.Slot.{Slot}
use Rattle.pn_shape.specs.declared.tag.Tag.{Tag}
use Rattle.pn_shape.specs.declared.tag.Tag.TheVariants as tag
use Rattle.pn_spelling.specs.Parts.{child_elements}
use Rattle.pn_spelling.specs.ReadSorts.{first_sort, sort_node, sort_read}
use Rattle.pn_spelling.specs.Writing.{attribute, attributed, made}
use Rattle.pn_spelling.specs.WriteSorts.{range_element, sort_element}
use Rattle.pn_spelling.proofs.ReadLemmas.{sort_read_is}
use Rattle.pn_round_trip.proofs.KidLemmas.{elements_again, leaf_shape, shaped_elements}
use Rattle.pn_round_trip.proofs.SortLemmas.{right_number, sort_element_at}
use Rattle.pn_round_trip.proofs.WritableParts.{around_fits, attributed_fits, elements_fit, made_fits}
use Rattle.pn_round_trip.proofs.WritableSorts.{range_fits}
use Rattle.pn_values.specs.Sizes.{depth_of, depth_step, greatest}
use Rattle.pn_values.specs.declared.sort.Sort.{Sort}
use Rattle.pn_values.specs.declared.sort.Sort.TheFolds.{fold-roll-Sort, ind-Sort, map-Sort}
use Rattle.pn_values.specs.declared.sort.Sort.TheOpen as layer
use Rattle.pn_values.specs.declared.sort.Sort.TheViews.{roll-Sort}
use Rattle.pn_marked.proofs.WritingLemmas.{writing_at}
use Rattle.pn_marked.specs.Ground.{Writing, declared_id, is_sound, is_sound_layer, sort_of_node, sort_written, writing_layer, writing_of}
use Rattle.pn_documents.specs.Fit.{HasTextIds, is_number, may_stand, may_stand_layer}
use Rattle.pn_documents.proofs.PlainLemmas.{IsReadAgain, only_shape, read_text}

-- a number of 64 bits is read again
pub number_back : (z : ℤ) → is_number z ≡ true → IsReadAgain z
number_back (pos n) is = natural_decimal n (small (and_right (int_le least_number (pos n)) (int_le (pos n) greatest_number) is))
  where
    small : int_le (pos n) greatest_number ≡ true → n < 9223372036854775808
    small h = grind (arith, nat_tests)
number_back (negsuc n) is = negative_decimal n (small (and_left (int_le least_number (negsuc n)) (int_le (negsuc n) greatest_number) is))
  where
    small : int_le least_number (negsuc n) ≡ true → n < 9223372036854775808
    small h = grind (arith, nat_tests)

-- ---- elements of sorts in high-level nets

-- the sort is written without a fault of shape, in so many levels, and read back
pub record IsWrittenSort (n : ℕ) (e : SortExpr) : Type 0 where
  pub shaped : IsShapedSort kinds.HighLevel (sort_element e)
  pub reads : sort_read (sort_element e) ≡ e
  pub levels : is_element n (sort_element e) ≡ true

written_as : (n : ℕ) (node : SortNode) (y : Element) → sort_element (sort_of_node node) ≡ y → IsShapedSort kinds.HighLevel y → y.at ≡ 0 → sort_node y (map sort_read (child_elements y)) ≡ node → is_element n y ≡ true → IsWrittenSort n (sort_of_node node)
written_as n node y is shaped origin reads levels = record {
  shaped = subst (IsShapedSort kinds.HighLevel) (sym is) shaped;
  reads = ap sort_read is ∙ sort_read_is y ∙ (λ i. record { at = origin i; node = reads i });
  levels = ap (is_element n) is ∙ levels;
}

fills_as : (t : Tag) (y : Element) → (rule_for t).content ≡ contents.Elements → tag_of kinds.HighLevel y.name fill.Sort ≡ Some t → HasShape kinds.HighLevel (rule_for t) y → IsShapedSort kinds.HighLevel y
fills_as t y content is shape = of_fill kinds.HighLevel fill.Sort y t is (shaped_elements kinds.HighLevel t y content shape)

-- a row without attributes and places
record IsLeafRow (t : Tag) (name : List ℕ) : Type 0 where
  tagged : tag_of kinds.HighLevel name fill.Sort ≡ Some t
  content : (rule_for t).content ≡ contents.Elements
  slots : (rule_for t).slots ≡ []
  attrs : AllByRecursion (λ r. lack_fault [] r ≡ None) (rule_for t).attrs
  named : is_name name ≡ true

row_dot : IsLeafRow tag.Dot (codes "dot")
unfolding rule_for tag_of
row_dot = record { tagged = refl; content = refl; slots = refl; attrs = tt; named = refl }

row_bool : IsLeafRow tag.Bool (codes "bool")
unfolding rule_for tag_of
row_bool = record { tagged = refl; content = refl; slots = refl; attrs = tt; named = refl }

row_integer : IsLeafRow tag.Integer (codes "integer")
unfolding rule_for tag_of
row_integer = record { tagged = refl; content = refl; slots = refl; attrs = tt; named = refl }

row_natural : IsLeafRow tag.Natural (codes "natural")
unfolding rule_for tag_of
row_natural = record { tagged = refl; content = refl; slots = refl; attrs = tt; named = refl }

row_positive : IsLeafRow tag.Positive (codes "positive")
unfolding rule_for tag_of
row_positive = record { tagged = refl; content = refl; slots = refl; attrs = tt; named = refl }

row_text : IsLeafRow tag.StringSort (codes "string")
unfolding rule_for tag_of
row_text = record { tagged = refl; content = refl; slots = refl; attrs = tt; named = refl }

user_tag : tag_of kinds.HighLevel (codes "usersort") fill.Sort ≡ Some tag.UserSort
unfolding rule_for tag_of
user_tag = refl

range_tag : tag_of kinds.HighLevel (codes "finiteintrange") fill.Sort ≡ Some tag.FiniteIntRange
unfolding rule_for tag_of
range_tag = refl

product_tag : tag_of kinds.HighLevel (codes "productsort") fill.Sort ≡ Some tag.ProductSort
unfolding rule_for tag_of
product_tag = refl

list_tag : tag_of kinds.HighLevel (codes "list") fill.Sort ≡ Some tag.ListSort
unfolding rule_for tag_of
list_tag = refl

leaf_made : (n : ℕ) (t : Tag) (name : List ℕ) (node : SortNode) → IsLeafRow t name → sort_element (sort_of_node node) ≡ made name [] [] → sort_node (made name [] []) [] ≡ node → IsWrittenSort (suc n) (sort_of_node node)
leaf_made n t name node row is reads =
    written_as (suc n) node (made name [] []) is (fills_as t (made name [] []) row.content row.tagged (leaf_shape kinds.HighLevel (rule_for t) name [] row.content row.slots tt row.attrs)) refl reads
    (made_fits n name [] [] row.named refl refl)

user_made : (n : ℕ) (id : List ℕ) → is_text id ≡ true → IsWrittenSort (suc n) (sort_of_node (written.User id))
unfolding rule_for
user_made n id right =
    let y = attributed (codes "usersort") (codes "declaration") id in
    written_as (suc n) (written.User id) y (sort_element_at (sort_of_node (written.User id)) (written_layer.User id) (written.rolls-User id))
    (fills_as tag.UserSort y refl user_tag (leaf_shape kinds.HighLevel (rule_for tag.UserSort) (codes "usersort") (attribute (codes "declaration") id ∷ []) refl refl (refl, tt) (refl, tt))) refl refl
    (attributed_fits n (codes "usersort") (codes "declaration") id refl refl right)

range_made : (n : ℕ) (start end : ℤ) → IsReadAgain start → IsReadAgain end → IsWrittenSort (suc n) (sort_of_node (written.Range start end))
unfolding rule_for
range_made n start end first last =
    let y = range_element start end in
    written_as (suc n) (written.Range start end) y (sort_element_at (sort_of_node (written.Range start end)) (written_layer.Range start end) (written.rolls-Range start end))
    (fills_as tag.FiniteIntRange y refl range_tag (leaf_shape kinds.HighLevel (rule_for tag.FiniteIntRange) (codes "finiteintrange") y.attrs refl refl (right_number start first, (right_number end last, tt)) (refl, (refl, tt)))) refl
    (λ i. written.Range (unwrap_or (first i) (pos 0)) (unwrap_or (last i) (pos 0)))
    (range_fits n start end (read_text start first) (read_text end last))

parts_shaped : (n : ℕ) (ps : List SortExpr) → AllByRecursion (IsWrittenSort n) ps → AllByRecursion (λ x. fill_faults kinds.HighLevel fill.Sort x ≡ []) (map sort_element ps)
parts_shaped n [] all = tt
parts_shaped n (p ∷ ps) all = (all.0.shaped, parts_shaped n ps all.1)

parts_read : (n : ℕ) (ps : List SortExpr) → AllByRecursion (IsWrittenSort n) ps → map sort_read (map sort_element ps) ≡ ps
parts_read n [] all = refl
parts_read n (p ∷ ps) all = λ i. all.0.reads i ∷ parts_read n ps all.1 i

parts_fit : (n : ℕ) (ps : List SortExpr) → AllByRecursion (IsWrittenSort n) ps → AllByRecursion (λ x. is_element n x ≡ true) (map sort_element ps)
parts_fit n [] all = tt
parts_fit n (p ∷ ps) all = (all.0.levels, parts_fit n ps all.1)

product_made : (n : ℕ) (ps : List SortExpr) → 1 ≤ length ps → AllByRecursion (IsWrittenSort n) ps → IsWrittenSort (suc n) (sort_of_node (written.Product ps))
unfolding rule_for
product_made n ps some all =
    let xs = map sort_element ps in
    let y = made (codes "productsort") [] (map children.Element xs) in
    let slot : Slot = record { fill = fill.Sort; least = 1; most = None; over = over.Repeated } in
    written_as (suc n) (written.Product ps) y (sort_element_at (sort_of_node (written.Product ps)) (written_layer.Product ps) (written.rolls-Product ps))
    (fills_as tag.ProductSort y refl product_tag (only_shape kinds.HighLevel (rule_for tag.ProductSort) slot refl (codes "productsort") [] xs refl (parts_shaped n ps all) (subst (λ k. 1 ≤ k) (sym (length-map ps sort_element)) some) tt tt tt)) refl
    (ap (λ zs. written.Product (map sort_read zs)) (elements_again xs) ∙ ap written.Product (parts_read n ps all))
    (made_fits n (codes "productsort") [] (map children.Element xs) refl refl (elements_fit n xs (parts_fit n ps all)))

list_made : (n : ℕ) (p : SortExpr) → IsWrittenSort n p → IsWrittenSort (suc n) (sort_of_node (written.List p))
unfolding rule_for
list_made n p is =
    let x = sort_element p in
    let y = made (codes "list") [] (map children.Element (x ∷ [])) in
    let slot : Slot = record { fill = fill.Sort; least = 1; most = Some 1; over = over.Repeated } in
    written_as (suc n) (written.List p) y (sort_element_at (sort_of_node (written.List p)) (written_layer.List p) (written.rolls-List p))
    (fills_as tag.ListSort y refl list_tag (only_shape kinds.HighLevel (rule_for tag.ListSort) slot refl (codes "list") [] (x ∷ []) refl (is.shaped, tt) (omega arith) (omega arith) tt tt)) refl
    (ap (λ zs. written.List (first_sort (map sort_read zs))) (elements_again (x ∷ [])) ∙ ap written.List is.reads)
    (around_fits n (codes "list") x refl is.levels)

-- ---- by induction on sorts

module _ (items : List Declaration) (ids : HasTextIds items) where
  abbrev HasWritten : Sort → Type 0
  HasWritten s = (n : ℕ) → depth_of s ≤ n → may_stand kinds.HighLevel s ≡ true → is_sound s ≡ true → IsWrittenSort n (sort_written items s)

  abbrev Kept : Type 0
  Kept = (s : Sort) × HasWritten s

  abbrev sorts_of : List Kept → List Sort
  sorts_of es = map (λ e. e.0) es

  by_layer : (x : layer.Sort-F Sort) → ((n : ℕ) → depth_step (map-Sort Sort ℕ depth_of x) ≤ n → may_stand_layer kinds.HighLevel (map-Sort Sort Bool (may_stand kinds.HighLevel) x) ≡ true → is_sound_layer (map-Sort Sort Bool is_sound x) ≡ true
      → IsWrittenSort n (writing_layer items (map-Sort Sort Writing (writing_of items) x)).sort) → HasWritten (roll-Sort x)
  by_layer x f n deep may sound =
      subst (λ (w : Writing). IsWrittenSort n w.sort) (sym (writing_at items x))
      (f n (subst (λ d. d ≤ n) (fold-roll-Sort ℕ depth_step x) deep) (sym (fold-roll-Sort Bool (may_stand_layer kinds.HighLevel) x) ∙ may) (sym (fold-roll-Sort Bool is_sound_layer x) ∙ sound))

  -- an element has a level
  some_level : (n : ℕ) (e : SortExpr) → 1 ≤ n → ((m : ℕ) → IsWrittenSort (suc m) e) → IsWrittenSort n e
  some_level zero e some f = absurd (omega (arith, some))
  some_level (suc m) e some f = f m

  writings : List Kept → List SortExpr
  writings es = map (λ (w : Writing). w.sort) (map (writing_of items) (sorts_of es))

  all_written : (n : ℕ) (es : List Kept) → greatest (map depth_of (sorts_of es)) ≤ n → list_all (λ part. part) (map (may_stand kinds.HighLevel) (sorts_of es)) ≡ true → list_all (λ part. part) (map is_sound (sorts_of es)) ≡ true → AllByRecursion (IsWrittenSort n) (writings es)
  unfolding writings
  all_written n [] deep may sound = tt
  all_written n (e ∷ es) deep may sound =
      let rest_may = list_all (λ part. part) (map (may_stand kinds.HighLevel) (sorts_of es)) in
      let rest_sound = list_all (λ part. part) (map is_sound (sorts_of es)) in (
        e.1 n (omega (arith, deep)) (and_left (may_stand kinds.HighLevel e.0) rest_may may) (and_left (is_sound e.0) rest_sound sound),
        all_written n es (omega (arith, deep)) (and_right (may_stand kinds.HighLevel e.0) rest_may may) (and_right (is_sound e.0) rest_sound sound),
      )

  product_written : (n : ℕ) (es : List Kept) → suc (greatest (map depth_of (sorts_of es))) ≤ n → list_all (λ part. part) (map (may_stand kinds.HighLevel) (sorts_of es)) ≡ true
      → (nat_lt 0 (length (map is_sound (sorts_of es))) && list_all (λ part. part) (map is_sound (sorts_of es))) ≡ true → IsWrittenSort n (sort_of_node (written.Product (writings es)))
  unfolding writings
  product_written n [] deep may sound = absurd (false≢true sound)
  product_written zero (e ∷ es) deep may sound = absurd (omega (arith, deep))
  product_written (suc n) (e ∷ es) deep may sound =
      product_made n (writings (e ∷ es)) (omega arith)
      (all_written n (e ∷ es) (omega (arith, deep)) may (and_right (nat_lt 0 (length (map is_sound (sorts_of (e ∷ es))))) (list_all (λ part. part) (map is_sound (sorts_of (e ∷ es)))) sound))

  list_written : (n : ℕ) (e : Kept) → suc (depth_of e.0) ≤ n → may_stand kinds.HighLevel e.0 ≡ true → is_sound e.0 ≡ true → IsWrittenSort n (sort_of_node (written.List (sort_written items e.0)))
  list_written zero e deep may sound = absurd (omega (arith, deep))
  list_written (suc n) e deep may sound = list_made n (sort_written items e.0) (e.1 n (omega (arith, deep)) may sound)

  step : (y : layer.Sort-F Kept) → HasWritten (roll-Sort (map-Sort Kept Sort (λ e. e.0) y))
  unfolding writings
  step layer.Dot = by_layer layer.Dot (λ n deep may sound. some_level n (sort_of_node written.Dot) deep (λ m. leaf_made m tag.Dot (codes "dot") written.Dot row_dot (sort_element_at (sort_of_node written.Dot) written_layer.Dot written.rolls-Dot) refl))
  step layer.Bool = by_layer layer.Bool (λ n deep may sound. some_level n (sort_of_node written.Bool) deep (λ m. leaf_made m tag.Bool (codes "bool") written.Bool row_bool (sort_element_at (sort_of_node written.Bool) written_layer.Bool written.rolls-Bool) refl))
  step layer.Integer = by_layer layer.Integer (λ n deep may sound. some_level n (sort_of_node written.Integer) deep (λ m. leaf_made m tag.Integer (codes "integer") written.Integer row_integer (sort_element_at (sort_of_node written.Integer) written_layer.Integer written.rolls-Integer) refl))
  step layer.Natural = by_layer layer.Natural (λ n deep may sound. some_level n (sort_of_node written.Natural) deep (λ m. leaf_made m tag.Natural (codes "natural") written.Natural row_natural (sort_element_at (sort_of_node written.Natural) written_layer.Natural written.rolls-Natural) refl))
  step layer.Positive = by_layer layer.Positive (λ n deep may sound. some_level n (sort_of_node written.Positive) deep (λ m. leaf_made m tag.Positive (codes "positive") written.Positive row_positive (sort_element_at (sort_of_node written.Positive) written_layer.Positive written.rolls-Positive) refl))
  step layer.Text = by_layer layer.Text (λ n deep may sound. some_level n (sort_of_node written.Text) deep (λ m. leaf_made m tag.StringSort (codes "string") written.Text row_text (sort_element_at (sort_of_node written.Text) written_layer.Text written.rolls-Text) refl))
  step (layer.Enumeration place) = by_layer (layer.Enumeration place) (λ n deep may sound. some_level n (sort_of_node (written.User (declared_id items place))) deep (λ m. user_made m (declared_id items place) (ids.declared place)))
  step (layer.Partition place) = by_layer (layer.Partition place) (λ n deep may sound. some_level n (sort_of_node (written.User (declared_id items place))) deep (λ m. user_made m (declared_id items place) (ids.declared place)))
  step (layer.Range start end) = by_layer (layer.Range start end) (λ n deep may sound. some_level n (sort_of_node (written.Range start end)) deep
      (λ m. range_made m start end (number_back start (and_left (is_number start) (is_number end) may)) (number_back end (and_right (is_number start) (is_number end) may))))
  step (layer.Product es) = by_layer (layer.Product (sorts_of es)) (λ n deep may sound. product_written n es deep may sound)
  step (layer.List e) = by_layer (layer.List e.0) (λ n deep may sound. list_written n e deep may sound)

  -- the sort that is written for a sort is so
  pub sort_is_written : (s : Sort) → HasWritten s
  sort_is_written = ind-Sort HasWritten (λ x y is. subst (λ z. HasWritten (roll-Sort z)) is (step y))
