-- The sorts that elements without a fault of shape write fit their kind.
use Rattle.std.proofs.Common.{◌≡◌, ◌==◌, ◌≤◌, ◌<◌, ◌^◌, ◌-◌, ◌&&◌, ℕ, zero, suc, ℤ, pos, negsuc, int_le, int_lt, nat_lt, Bool, true, false, cond, not, List, [], ◌∷◌, map, length, codes, Option, None, Some, refl, sym, ap, subst, ◌∙◌, arith}
use Rattle.std.specs.List.{AllByRecursion, Contains, list_all, slice_get}
use Rattle.std.specs.Option.{option_map, unwrap_or}
use Rattle.std.specs.Prelude.{neg_ℤ}
use Rattle.std.proofs.lemmas.Bool.Decides.{nat_tests}
use Rattle.pn_carriers.specs.Members.{greatest_number, least_number}
use Rattle.pn_facts.proofs.Each.{each, each_both, one_of}
use Rattle.pn_facts.proofs.Truths.{and_both}
use Rattle.pn_marked.specs.Ground.{is_sound, is_sound_layer}
use Rattle.pn_operators.specs.declared.kind.Kind.{Kind}
use Rattle.pn_operators.specs.declared.kind.Kind.TheVariants as kinds
use Rattle.pn_resolve.proofs.Expressions.{sort_at}
use Rattle.pn_resolve.proofs.Meanings.{split_sorts}
use Rattle.pn_resolve.proofs.Options.{mapped_some}
use Rattle.pn_resolve.specs.Meaning.{all_sorts, node_sort, sort_with}
use Rattle.pn_round_trip.proofs.KidLemmas.{all_fill, elements_shape, number_only, place_there, shallower, the_only}
use Rattle.pn_round_trip.proofs.NumberLemmas.{numeral_within}
use Rattle.pn_round_trip.proofs.OffsetLemmas.{SortLayer, of_bare_sort}
use Rattle.pn_round_trip.proofs.SortLemmas.{named}
use Rattle.pn_round_trip.specs.Spellable.{IsSpelledSort}
use Rattle.pn_shape.proofs.AttrLemmas.{needed_there, number_there, value_right}
use Rattle.pn_shape.proofs.PlaceLemmas.{fill_of, tag_is}
use Rattle.pn_shape.specs.Attributes.{form_fault, rule_named, ruled_fault}
use Rattle.pn_shape.specs.Faults.{IsShapedSort}
use Rattle.pn_shape.specs.Numbers.{behind_space, number_in, numeral_in, signed_in}
use Rattle.pn_shape.specs.Rules.{alternatives, is_had, rule_for}
use Rattle.pn_shape.specs.Shaped.{HasShape}
use Rattle.pn_shape.specs.Spots.{has_slot, tag_of}
use Rattle.pn_shape.specs.declared.rule.AttrName.TheVariants as names
use Rattle.pn_shape.specs.declared.rule.Content.TheVariants as contents
use Rattle.pn_shape.specs.declared.rule.Fill.TheVariants as fill
use Rattle.pn_shape.specs.declared.rule.Form.TheVariants as form
use Rattle.pn_shape.specs.declared.rule.Over.TheVariants as over
use Rattle.pn_shape.specs.declared.rule.Slot.{Slot}
use Rattle.pn_shape.specs.declared.tag.Tag.{Tag}
use Rattle.pn_shape.specs.declared.tag.Tag.TheVariants as tag
use Rattle.pn_spelling.proofs.ReadLemmas.{sort_of_parts, sort_read_is}
use Rattle.pn_spelling.specs.Parts.{attribute_of, child_elements, number_at}
use Rattle.pn_spelling.specs.ReadSorts.{first_sort, sort_node, sort_read}
use Rattle.pn_syntax.specs.Offsets.{sort_without_offsets}
use Rattle.pn_syntax.specs.declared.sort_expr.SortExpr.{SortExpr}
use Rattle.pn_syntax.specs.declared.sort_expr.SortNode.{SortNode, map-SortNode}
use Rattle.pn_syntax.specs.declared.sort_expr.SortNode.TheFolds.{fold-SortNode}
use Rattle.pn_syntax.specs.declared.sort_expr.SortNode.TheOpen as written_layer
use Rattle.pn_syntax.specs.declared.sort_expr.SortNode.TheVariants as written
use Rattle.pn_syntax.specs.declared.sort_expr.SortNode.TheViews.{out-roll-SortNode, out-SortNode, roll-SortNode}
use Rattle.pn_tree.specs.Depth.{depth_of}
use Rattle.pn_tree.specs.Elements.{attr_value}
use Rattle.pn_tree.specs.declared.element.Element.{Element}
use Rattle.pn_tree.proofs.DepthLemmas.{some_levels}
use Rattle.pn_values.specs.declared.sort.Sort.{Sort}
use Rattle.pn_values.specs.declared.sort.Sort.TheFolds.{fold-roll-Sort, map-Sort}
use Rattle.pn_values.specs.declared.sort.Sort.TheOpen as layer
use Rattle.pn_values.specs.declared.sort.Sort.TheVariants as sorts
use Rattle.pn_values.specs.declared.sort.Sort.TheVariants.{rolls-Dot, rolls-Bool, rolls-Range, rolls-Product, rolls-Integer, rolls-Natural, rolls-Positive, rolls-Text, rolls-List}
use Rattle.pn_values.specs.declared.sort.Sort.TheViews.{roll-Sort}
use Rattle.pn_documents.specs.Fit.{is_high, is_number, may_stand, may_stand_layer}

-- ---- numbers that are read

not_above : (n : ℕ) → n ≤ 2 ^ 63 - 1 → is_number (pos n) ≡ true
not_above n small = grind (arith, nat_tests)

not_below : (n : ℕ) → n ≤ 2 ^ 63 → is_number (neg_ℤ (pos n)) ≡ true
not_below zero small = refl
not_below (suc n) small = grind (arith, nat_tests)

-- a number that is read has 64 bits
read_fits : (v : List ℕ) (z : ℤ) → number_in v ≡ Some z → is_number z ≡ true
read_fits v z is = signed (behind_space v) is
  where
    Small : ℤ → Type 0
    Small y = is_number y ≡ true

    by_sign : (minus : Bool) (b : ℕ) (bs : List ℕ) → cond minus (option_map (λ n. neg_ℤ (pos n)) (numeral_in (2 ^ 63) bs)) (option_map pos (numeral_in (2 ^ 63 - 1) (b ∷ bs))) ≡ Some z → Small z
    by_sign true b bs is = of (numeral_in (2 ^ 63) bs) refl is
      where
        of : (o : Option ℕ) → numeral_in (2 ^ 63) bs ≡ o → option_map (λ n. neg_ℤ (pos n)) o ≡ Some z → Small z
        of None at is = absurd cc
        of (Some n) at is = let same : neg_ℤ (pos n) ≡ z = cc in subst Small same (not_below n (numeral_within (2 ^ 63) n bs at))
    by_sign false b bs is = of (numeral_in (2 ^ 63 - 1) (b ∷ bs)) refl is
      where
        of : (o : Option ℕ) → numeral_in (2 ^ 63 - 1) (b ∷ bs) ≡ o → option_map pos o ≡ Some z → Small z
        of None at is = absurd cc
        of (Some n) at is = let same : pos n ≡ z = cc in subst Small same (not_above n (numeral_within (2 ^ 63 - 1) n (b ∷ bs) at))

    signed : (bs : List ℕ) → signed_in bs ≡ Some z → Small z
    signed [] is = absurd cc
    signed (b ∷ bs) is = by_sign (b == 45) b bs is

-- so has a number that an element has to have
number_fits : (t : Tag) (e : Element) (name : List ℕ) (k : Kind) → HasShape k (rule_for t) e → (v : List ℕ) × (attr_value name e.attrs ≡ Some v)
    → ((v : List ℕ) → ruled_fault (rule_named name (rule_for t).attrs) name v ≡ form_fault form.Number v) → is_number (number_at name e) ≡ true
number_fits t e name k shape value ruled =
    let number = number_there value.0 (sym (ruled value.0) ∙ value_right (rule_for t).attrs e.attrs name value.0 shape.attrs value.1) in
    let is : number_at name e ≡ number.0 = ap (λ o. unwrap_or (number_in (unwrap_or o [])) (pos 0)) value.1 ∙ ap (λ o. unwrap_or o (pos 0)) number.1 in
    ap is_number is ∙ read_fits value.0 number.0 number.1

-- ---- sorts that nets of a kind have

text_high : (k : Kind) → is_had k tag.StringSort ≡ true → is_high k ≡ true
unfolding rule_for
text_high kinds.PtNet had = absurd cc
text_high kinds.Symmetric had = absurd cc
text_high kinds.HighLevel had = refl

list_high : (k : Kind) → is_had k tag.ListSort ≡ true → is_high k ≡ true
unfolding rule_for
list_high kinds.PtNet had = absurd cc
list_high kinds.Symmetric had = absurd cc
list_high kinds.HighLevel had = refl

module _ (k : Kind) where
  -- nets of the kind have the sort, and it is sound
  pub record Stands (s : Sort) : Type 0 where
    pub stands : may_stand k s ≡ true
    pub sound : is_sound s ≡ true

  pub stands_by : (x : layer.Sort-F Sort) → may_stand_layer k (map-Sort Sort Bool (may_stand k) x) ≡ true → is_sound_layer (map-Sort Sort Bool is_sound x) ≡ true → (s : Sort) → roll-Sort x ≡ s → Stands s
  stands_by x may sound s is = record {
    stands = ap (may_stand k) (sym is) ∙ fold-roll-Sort Bool (may_stand_layer k) x ∙ may;
    sound = ap is_sound (sym is) ∙ fold-roll-Sort Bool is_sound_layer x ∙ sound;
  }

  same_sort : (x y : Sort) → Some x ≡ Some y → x ≡ y
  same_sort x y h = cc

  range_stands : (start end : ℤ) → is_number start ≡ true → is_number end ≡ true → (b : Bool) → int_lt end start ≡ b → (s : Sort) → cond b None (Some (sorts.Range start end)) ≡ Some s → Stands s
  range_stands start end first last true is s h = absurd cc
  range_stands start end first last false is s h =
      stands_by (layer.Range start end) (and_both (is_number start) (is_number end) first last) (ap not is) s (rolls-Range start end ∙ same_sort (sorts.Range start end) s h)

  module _ (m : List ℕ → Option Sort) (means : (name : List ℕ) (s : Sort) → m name ≡ Some s → Stands s) where
    -- what is to be shown: a sort that the element writes stands
    abbrev Fits : Element → Type 0
    Fits e = (s : Sort) → sort_with m (sort_read e) ≡ Some s → Stands s

    fits_as : (e : Element) (l : SortLayer) → roll-SortNode l ≡ sort_node e (map sort_read (child_elements e))
        → ((s : Sort) → node_sort m (map-SortNode SortNode SortExpr (Option Sort) (Option Sort) (fold-SortNode (Option Sort) (Option Sort) (node_sort m) (λ e. e.node)) (sort_with m) l) ≡ Some s → Stands s) → Fits e
    fits_as e l says f s h =
        f s (sym (sort_at m (sort_of_parts e (map sort_read (child_elements e))) l (ap out-SortNode (sym says) ∙ out-roll-SortNode l)) ∙ sym (ap (sort_with m) (sort_read_is e)) ∙ h)

    -- an element of a tag, of its name, whose parts have what is to be shown
    record IsSort (t : Tag) (e : Element) : Type 0 where
      had : is_had k t ≡ true
      sorts : has_slot k fill.Sort ≡ true
      shape : HasShape k (rule_for t) e
      parts : AllByRecursion (λ x. IsShapedSort k x → Fits x) (child_elements e)

    abbrev Step : Tag → Type 0
    Step t = (e : Element) → IsSort t (named (rule_for t).name e) → Fits (named (rule_for t).name e)

    step_dot : Step tag.Dot
    unfolding rule_for
    step_dot e is = fits_as (named (codes "dot") e) written_layer.Dot written.rolls-Dot (λ s h. stands_by layer.Dot refl refl s (rolls-Dot ∙ same_sort sorts.Dot s h))

    step_bool : Step tag.Bool
    unfolding rule_for
    step_bool e is = fits_as (named (codes "bool") e) written_layer.Bool written.rolls-Bool (λ s h. stands_by layer.Bool refl refl s (rolls-Bool ∙ same_sort sorts.Bool s h))

    step_integer : Step tag.Integer
    unfolding rule_for
    step_integer e is = fits_as (named (codes "integer") e) written_layer.Integer written.rolls-Integer (λ s h. stands_by layer.Integer refl refl s (rolls-Integer ∙ same_sort sorts.Integer s h))

    step_natural : Step tag.Natural
    unfolding rule_for
    step_natural e is = fits_as (named (codes "natural") e) written_layer.Natural written.rolls-Natural (λ s h. stands_by layer.Natural refl refl s (rolls-Natural ∙ same_sort sorts.Natural s h))

    step_positive : Step tag.Positive
    unfolding rule_for
    step_positive e is = fits_as (named (codes "positive") e) written_layer.Positive written.rolls-Positive (λ s h. stands_by layer.Positive refl refl s (rolls-Positive ∙ same_sort sorts.Positive s h))

    step_string : Step tag.StringSort
    unfolding rule_for
    step_string e is =
        fits_as (named (codes "string") e) written_layer.Text written.rolls-Text (λ s h. stands_by layer.Text (text_high k is.had) refl s (rolls-Text ∙ same_sort sorts.Text s h))

    step_user : Step tag.UserSort
    unfolding rule_for
    step_user e is =
        let id = attribute_of (codes "declaration") e in
        fits_as (named (codes "usersort") e) (written_layer.User id) (written.rolls-User id) (λ s h. means id s h)

    -- the numbers of a range
    step_range : Step tag.FiniteIntRange
    unfolding rule_for
    step_range e is =
        let x = named (codes "finiteintrange") e in
        let first = number_at (codes "start") e in
        let last = number_at (codes "end") e in
        let start = number_fits tag.FiniteIntRange x (codes "start") k is.shape (needed_there e.attrs (record { name = names.Start; is_needed = true; form = form.Number }) is.shape.lacks.0 refl) (λ v. refl) in
        let end = number_fits tag.FiniteIntRange x (codes "end") k is.shape (needed_there e.attrs (record { name = names.End; is_needed = true; form = form.Number }) is.shape.lacks.1.0 refl) (λ v. refl) in
        fits_as x (written_layer.Range first last) (written.rolls-Range first last) (λ s h. range_stands first last start end (int_lt last first) refl s h)

    -- the parts of a product
    parts_stand : (xs : List Element) → AllByRecursion Fits xs → (ss : List Sort) → all_sorts (map (sort_with m) (map sort_read xs)) ≡ Some ss
        → (length ss ≡ length xs) × (list_all (λ part. part) (map (may_stand k) ss) ≡ true) × (list_all (λ part. part) (map is_sound ss) ≡ true)
    parts_stand [] fits ss h =
        let none : [] ≡ ss = cc in
        subst (λ xs. (length xs ≡ 0) × (list_all (λ part. part) (map (may_stand k) xs) ≡ true) × (list_all (λ part. part) (map is_sound xs) ≡ true)) none (refl, refl, refl)
    parts_stand (x ∷ xs) (here, more) ss h =
        let cut = split_sorts (sort_with m (sort_read x)) (map (sort_with m) (map sort_read xs)) ss h in
        let first = here cut.first cut.is_first in
        let rest = parts_stand xs more cut.more cut.is_more in
        subst (λ ys. (length ys ≡ suc (length xs)) × (list_all (λ part. part) (map (may_stand k) ys) ≡ true) × (list_all (λ part. part) (map is_sound ys) ≡ true)) cut.whole (
          ap suc rest.0,
          and_both (may_stand k cut.first) (list_all (λ part. part) (map (may_stand k) cut.more)) first.stands rest.1,
          and_both (is_sound cut.first) (list_all (λ part. part) (map is_sound cut.more)) first.sound rest.2,
        )

    some_there : (ss : List Sort) → 1 ≤ length ss → nat_lt 0 (length (map is_sound ss)) ≡ true
    some_there [] some = absurd (omega (arith, some))
    some_there (s ∷ ss) some = grind (arith, nat_tests)

    step_product : Step tag.ProductSort
    unfolding rule_for
    step_product e is =
        let x = named (codes "productsort") e in
        let parts = child_elements x in
        let slot : Slot = record { fill = fill.Sort; least = 1; most = None; over = over.Repeated } in
        let shaped = all_fill k (rule_for tag.ProductSort) slot refl x is.shape in
        let some : 1 ≤ length parts = omega (arith, number_only k (rule_for tag.ProductSort) slot refl x is.shape, is.shape.least 0 slot refl is.sorts) in
        fits_as x (written_layer.Product (map sort_read parts)) (written.rolls-Product (map sort_read parts))
        (λ s h.
        let ss = mapped_some sorts.Product (all_sorts (map (sort_with m) (map sort_read parts))) s h in
        let all = parts_stand parts (each_both (IsShapedSort k) (λ p. IsShapedSort k p → Fits p) Fits (λ p is step. step is) parts shaped is.parts) ss.0 ss.1 in
        stands_by (layer.Product ss.0) all.1 (and_both (nat_lt 0 (length (map is_sound ss.0))) (list_all (λ part. part) (map is_sound ss.0)) (some_there ss.0 (omega (arith, some, all.0))) all.2) s (rolls-Product ss.0 ∙ ss.2))

    -- the part of a list
    step_list : Step tag.ListSort
    unfolding rule_for
    step_list e is =
        let x = named (codes "list") e in
        let slot : Slot = record { fill = fill.Sort; least = 1; most = Some 1; over = over.Repeated } in
        let one = the_only k (rule_for tag.ListSort) slot refl x refl refl is.sorts is.shape in
        let part = one.0 in
        let here = ap (λ ps. first_sort (map sort_read ps)) one.1 in
        let fits = (subst (AllByRecursion (λ p. IsShapedSort k p → Fits p)) one.1 is.parts).0 one.2 in
        fits_as x (written_layer.List (sort_read part)) (written.rolls-List (sort_read part) ∙ ap written.List (sym here))
        (λ s h.
        let inner = mapped_some sorts.List (sort_with m (sort_read part)) s h in
        let item = fits inner.0 inner.1 in
        stands_by (layer.List inner.0) (and_both (is_high k) (may_stand k inner.0) (list_high k is.had) item.stands) item.sound s (rolls-List inner.0 ∙ inner.2))

    steps : AllByRecursion Step (alternatives fill.Sort)
    steps = (step_dot, (step_bool, (step_range, (step_product, (step_user, (step_integer, (step_natural, (step_positive, (step_string, (step_list, tt))))))))))

    contents_are : AllByRecursion (λ t. (rule_for t).content ≡ contents.Elements) (alternatives fill.Sort)
    unfolding rule_for
    contents_are = (refl, (refl, (refl, (refl, (refl, (refl, (refl, (refl, (refl, (refl, tt))))))))))

    -- an element of so many levels
    fits_within : (n : ℕ) (e : Element) → depth_of e ≤ n → IsShapedSort k e → Fits e
    fits_within zero e deep shaped = absurd (omega (arith, some_levels e))
    fits_within (suc n) e deep shaped =
        let tagged = fill_of k fill.Sort e shaped in
        let t = tagged.0 in
        let row = tag_is k e.name fill.Sort t tagged.1 in
        let content = one_of (λ u. (rule_for u).content ≡ contents.Elements) (alternatives fill.Sort) t contents_are row.2 in
        subst (λ name. Fits (named name e)) row.0
        (one_of Step (alternatives fill.Sort) t steps row.2 e (record {
          had = row.1;
          sorts = place_there k fill.Sort t row.2 row.1;
          shape = subst (λ name. HasShape k (rule_for t) (named name e)) (sym row.0) (elements_shape k t e content tagged.2);
          parts = each (λ x. depth_of x < depth_of e) (λ x. IsShapedSort k x → Fits x) (λ x less is. fits_within n x (omega arith) is) (child_elements e) (shallower e);
        }))

    -- an expression that such an element spells, offsets aside
    pub spelled_stands : (e : SortExpr) → IsSpelledSort k e → (s : Sort) → sort_with m e ≡ Some s → Stands s
    spelled_stands e (x, shaped, alike) s h =
        let same : sort_with m (sort_read x) ≡ sort_with m e = sym (of_bare_sort (node_sort m) (λ n. n) (sort_read x)) ∙ ap (sort_with m) (sym alike) ∙ of_bare_sort (node_sort m) (λ n. n) e in
        fits_within (depth_of x) x (omega arith) shaped s (same ∙ h)
