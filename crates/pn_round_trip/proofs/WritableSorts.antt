-- The element that is written for a sort that was read may stand in a tree, where the element that was read may.
use Rattle.std.proofs.Common.{◌≡◌, ℕ, ℤ, zero, suc, Bool, true, false, cond, ◌&&◌, List, [], ◌∷◌, map, codes, Some, None, refl, sym, ap, subst, ◌∙◌}
use Rattle.std.specs.List.{AllByRecursion}
use Rattle.std.specs.Fmt.{signed_decimal}
use Rattle.std.proofs.lemmas.Slice.Eq.{bytes_eq-Decides}
use Rattle.pn_facts.proofs.Truths.{and_both}
use Rattle.pn_text.specs.Characters.{is_name, is_text}
use Rattle.pn_operators.specs.Operators.{is_taken}
use Rattle.pn_operators.specs.declared.kind.Kind.{Kind}
use Rattle.pn_operators.specs.declared.kind.Kind.TheVariants as kind
use Rattle.pn_syntax.specs.declared.sort_expr.SortExpr.{SortExpr}
use Rattle.pn_syntax.specs.declared.sort_expr.SortNode.{SortNode, map-SortNode}
use Rattle.pn_syntax.specs.declared.sort_expr.SortNode.TheOpen as layer
use Rattle.pn_syntax.specs.declared.sort_expr.SortNode.TheVariants as nodes
use Rattle.pn_syntax.specs.declared.sort_expr.SortNode.TheVariants.{rolls-Dot, rolls-Bool, rolls-Range, rolls-Product, rolls-User, rolls-Integer, rolls-Natural, rolls-Positive, rolls-Text, rolls-List}
use Rattle.pn_syntax.specs.declared.sort_expr.SortNode.TheViews.{roll-SortNode}
use Rattle.pn_syntax.specs.declared.sort_expr.SortNode.TheFolds.{fold-SortNode}
use Rattle.pn_tree.specs.Elements.{is_element}
use Rattle.pn_tree.specs.declared.element.Element.{Element}
use Rattle.pn_tree.specs.declared.element.Child.TheVariants as children
use Rattle.pn_tree.proofs.TreeLemmas.{not_element-zero, parts_of}
use Rattle.pn_shape.specs.Faults.{IsShaped, IsShapedSort}
use Rattle.pn_shape.specs.Rules.{rule_for}
use Rattle.pn_shape.specs.Spots.{has_slot, tag_of}
use Rattle.pn_shape.specs.declared.rule.Fill.TheVariants as fill
use Rattle.pn_shape.specs.declared.rule.Over.TheVariants as over
use Rattle.pn_shape.specs.declared.rule.Slot.{Slot}
use Rattle.pn_shape.specs.declared.tag.Tag.{Tag}
use Rattle.pn_shape.specs.declared.tag.Tag.TheVariants as tag
use Rattle.pn_shape.proofs.PlaceLemmas.{fill_of}
use Rattle.pn_spelling.specs.Parts.{attribute_of, child_elements, has_name, number_at}
use Rattle.pn_spelling.specs.ReadSorts.{first_sort, sort_in, sort_node, sort_read}
use Rattle.pn_spelling.specs.Writing.{attribute, made}
use Rattle.pn_spelling.specs.WriteSorts.{range_element, sort_element, sort_step}
use Rattle.pn_spelling.proofs.ReadLemmas.{first_sort_is, sort_read_is}
use Rattle.pn_round_trip.proofs.KidLemmas.{all_fill}
use Rattle.pn_round_trip.proofs.SortLemmas.{sort_again, sort_element_at}
use Rattle.pn_round_trip.proofs.WritableParts.{HasOnly, needed_one, only_inside, around_fits, attributed_fits, elements_fit, inside_fit, made_fits, whole_of}
use Rattle.pn_round_trip.proofs.WritableTexts.{given_text, number_text}

-- nets with sorts and terms
abbrev pub HasSorts : Kind → Type 0
HasSorts k = is_taken kind.Symmetric k ≡ true

pub sort_slot : (k : Kind) → HasSorts k → has_slot k fill.Sort ≡ true
unfolding rule_for has_slot
sort_slot kind.PtNet had = absurd cc
sort_slot kind.Symmetric had = refl
sort_slot kind.HighLevel had = refl

product_tag : (k : Kind) (t : Tag) → tag_of k (codes "productsort") fill.Sort ≡ Some t → t ≡ tag.ProductSort
unfolding rule_for tag_of
product_tag kind.PtNet t is = absurd cc
product_tag kind.Symmetric t is = cc
product_tag kind.HighLevel t is = cc

list_tag : (k : Kind) (t : Tag) → tag_of k (codes "list") fill.Sort ≡ Some t → t ≡ tag.ListSort
unfolding rule_for tag_of
list_tag kind.PtNet t is = absurd cc
list_tag kind.Symmetric t is = absurd cc
list_tag kind.HighLevel t is = cc

abbrev pub one_sort : Slot
one_sort = needed_one fill.Sort

abbrev some_sorts : Slot
some_sorts = record { fill = fill.Sort; least = 1; most = None; over = over.Repeated }

list_whole : (n : ℕ) (k : Kind) (e : Element) → HasSorts k → is_element (suc n) e ≡ true → IsShaped k tag.ListSort e → HasOnly n k fill.Sort e
unfolding rule_for
list_whole n k e had fits shaped = only_inside n k tag.ListSort e fill.Sort refl refl (sort_slot k had) fits shaped

product_whole : (n : ℕ) (k : Kind) (e : Element) → is_element (suc n) e ≡ true → IsShaped k tag.ProductSort e → AllByRecursion (IsShapedSort k) (child_elements e)
unfolding rule_for
product_whole n k e fits shaped = all_fill k (rule_for tag.ProductSort) some_sorts refl e (whole_of n k tag.ProductSort e refl fits shaped).shape

pub range_fits : (n : ℕ) (start end : ℤ) → is_text (signed_decimal start) ≡ true → is_text (signed_decimal end) ≡ true → is_element (suc n) (range_element start end) ≡ true
range_fits n start end first last =
    made_fits n (codes "finiteintrange") (attribute (codes "start") (signed_decimal start) ∷ attribute (codes "end") (signed_decimal end) ∷ []) [] refl
    (and_both (is_text (signed_decimal start)) (is_text (signed_decimal end) && true) first (and_both (is_text (signed_decimal end)) true last refl)) refl

module _ (n : ℕ) (k : Kind) (had : HasSorts k) (again : (x : Element) → is_element n x ≡ true → IsShapedSort k x → is_element n (sort_again x) ≡ true) where
  parts_again : (xs : List Element) → AllByRecursion (λ x. is_element n x ≡ true) xs → AllByRecursion (IsShapedSort k) xs → AllByRecursion (λ x. is_element n x ≡ true) (map sort_element (map sort_read xs))
  parts_again [] fit shaped = tt
  parts_again (x ∷ xs) fit shaped = (again x fit.0 shaped.0, parts_again xs fit.1 shaped.1)

  module _ (e : Element) (fits : is_element (suc n) e ≡ true) (t : Tag) (tagged : tag_of k e.name fill.Sort ≡ Some t) (shaped : IsShaped k t e) where
    abbrev sorts : List SortExpr
    sorts = map sort_read (child_elements e)

    -- what is to be shown of what the element says
    abbrev Fits : SortNode → Type 0
    Fits s = is_element (suc n) (sort_element (record { at = e.at; node = s })) ≡ true

    said : (l : layer.SortNode-F SortNode SortExpr) (s : SortNode) → roll-SortNode l ≡ s → is_element (suc n) (sort_step (map-SortNode SortNode SortExpr Element Element (fold-SortNode Element Element sort_step (λ e. e.node)) sort_element l)) ≡ true → Fits s
    said l s is h = ap (is_element (suc n)) (sort_element_at (record { at = e.at; node = s }) l is) ∙ h

    tested : (name : List ℕ) (s rest : SortNode) → (e.name ≡ name → Fits s) → Fits rest → Fits (cond (has_name name e) s rest)
    tested name s rest holds other = step (has_name name e) refl
      where
        step : (b : Bool) → has_name name e ≡ b → Fits (cond b s rest)
        step true is = holds ((bytes_eq-Decides e.name name).0 is)
        step false is = other

    value : (name : List ℕ) → is_text (attribute_of name e) ≡ true
    value name = given_text name e.attrs (parts_of n e fits).attrs

    leaf : (name : List ℕ) → is_name name ≡ true → is_element (suc n) (made name [] []) ≡ true
    leaf name named = made_fits n name [] [] named refl refl

    product : e.name ≡ codes "productsort" → Fits (nodes.Product sorts)
    product is =
        let same = product_tag k t (ap (λ m. tag_of k m fill.Sort) (sym is) ∙ tagged) in
        said (layer.Product sorts) (nodes.Product sorts) (rolls-Product sorts)
        (made_fits n (codes "productsort") [] (map children.Element (map sort_element sorts)) refl refl
        (elements_fit n (map sort_element sorts) (parts_again (child_elements e) (inside_fit n e (parts_of n e fits)) (product_whole n k e fits (subst (λ u. IsShaped k u e) same shaped)))))

    list : e.name ≡ codes "list" → Fits (nodes.List (first_sort sorts))
    list is =
        let same = list_tag k t (ap (λ m. tag_of k m fill.Sort) (sym is) ∙ tagged) in
        let one = list_whole n k e had fits (subst (λ u. IsShaped k u e) same shaped) in
        let first : first_sort sorts ≡ sort_read one.x = ap (λ xs. first_sort (map sort_read xs)) one.only in
        said (layer.List (first_sort sorts)) (nodes.List (first_sort sorts)) (rolls-List (first_sort sorts))
        (around_fits n (codes "list") (sort_element (first_sort sorts)) refl (ap (λ s. is_element n (sort_element s)) first ∙ again one.x one.fits one.shaped))

    says_fits : Fits (sort_node e sorts)
    says_fits =
        tested (codes "bool") nodes.Bool _ (λ is. said layer.Bool nodes.Bool rolls-Bool (leaf (codes "bool") refl))
        (tested (codes "finiteintrange") (nodes.Range (number_at (codes "start") e) (number_at (codes "end") e)) _
        (λ is.
        said (layer.Range (number_at (codes "start") e) (number_at (codes "end") e)) (nodes.Range (number_at (codes "start") e) (number_at (codes "end") e)) (rolls-Range (number_at (codes "start") e) (number_at (codes "end") e))
        (range_fits n (number_at (codes "start") e) (number_at (codes "end") e) (number_text (attribute_of (codes "start") e)) (number_text (attribute_of (codes "end") e))))
        (tested (codes "productsort") (nodes.Product sorts) _ product
        (tested (codes "usersort") (nodes.User (attribute_of (codes "declaration") e)) _
        (λ is.
        said (layer.User (attribute_of (codes "declaration") e)) (nodes.User (attribute_of (codes "declaration") e)) (rolls-User (attribute_of (codes "declaration") e))
        (attributed_fits n (codes "usersort") (codes "declaration") (attribute_of (codes "declaration") e) refl refl (value (codes "declaration"))))
        (tested (codes "integer") nodes.Integer _ (λ is. said layer.Integer nodes.Integer rolls-Integer (leaf (codes "integer") refl))
        (tested (codes "natural") nodes.Natural _ (λ is. said layer.Natural nodes.Natural rolls-Natural (leaf (codes "natural") refl))
        (tested (codes "positive") nodes.Positive _ (λ is. said layer.Positive nodes.Positive rolls-Positive (leaf (codes "positive") refl))
        (tested (codes "string") nodes.Text _ (λ is. said layer.Text nodes.Text rolls-Text (leaf (codes "string") refl))
        (tested (codes "list") (nodes.List (first_sort sorts)) nodes.Dot list
        (said layer.Dot nodes.Dot rolls-Dot (leaf (codes "dot") refl))))))))))

-- the sort that an element without a fault of shape spells
pub sort_fits : (n : ℕ) (k : Kind) → HasSorts k → (e : Element) → is_element n e ≡ true → IsShapedSort k e → is_element n (sort_again e) ≡ true
sort_fits zero k had e fits shaped = absurd (not_element-zero e fits)
sort_fits (suc n) k had e fits shaped =
    let t = fill_of k fill.Sort e shaped in
    ap (λ s. is_element (suc n) (sort_element s)) (sort_read_is e) ∙ says_fits n k had (λ x fit is. sort_fits n k had x fit is) e fits t.0 t.1 t.2

-- the sort that stands in an element, where one has to and no other element
pub sort_in_fits : (n : ℕ) (k : Kind) (e : Element) → HasSorts k → HasOnly n k fill.Sort e → is_element n (sort_element (sort_in e)) ≡ true
sort_in_fits n k e had one =
    let first : sort_in e ≡ sort_read one.x = sym (first_sort_is e) ∙ ap (λ xs. first_sort (map sort_read xs)) one.only in
    ap (λ s. is_element n (sort_element s)) first ∙ sort_fits n k had one.x one.fits one.shaped
