-- Each sort that is written has a value, where each enumeration has a constant and each partition an element.
use Rattle.std.proofs.Common.{◌≡◌, ℕ, zero, suc, ℤ, ◌<◌, ◌&&◌, pos, negsuc, int_le, int_lt, Bool, true, false, cond, List, [], ◌∷◌, length, map, leb, Option, Some, None, refl, sym, ap, ◌∙◌, subst, arith}
use Rattle.std.specs.List.{AllByRecursion, Contains, slice_get}
use Rattle.std.proofs.lemmas.Bool.{false≢true}
use Rattle.std.proofs.lemmas.Bool.Decides.{nat_tests}
use Rattle.std.proofs.lemmas.List.{length-map}
use Rattle.pn_carriers.proofs.ValueLemmas.{out-bool, out-dot, out-int, out-tuple}
use Rattle.pn_carriers.specs.Carriers.{width_of}
use Rattle.pn_carriers.specs.Members.{IsMember, greatest_number, is_between, is_dot, is_list_of, is_member, least_number, is_truth, is_tuple_of, is_document_text, pass_each}
use Rattle.pn_eval.proofs.KinLemmas.{member_of_layer}
use Rattle.pn_eval.proofs.LeafLemmas.{enumeration_has, partition_has, width_there}
use Rattle.pn_eval.proofs.MemberLemmas.{out_list_value, out_text_value}
use Rattle.pn_facts.proofs.Contained.{contains_at, contains_first, contains_next}
use Rattle.pn_facts.proofs.Each.{one_of}
use Rattle.pn_facts.proofs.Truths.{and_both}
use Rattle.pn_names.specs.Names.{constant_ids, constant_id, element_id, sort_named, widths_of}
use Rattle.pn_resolve.proofs.Expressions.{NodeLayer, IsIn, expr_ind, sort_at}
use Rattle.pn_resolve.proofs.Meanings.{meaning_next, meaning_none, split_sorts}
use Rattle.pn_resolve.proofs.Options.{mapped_some, then_some}
use Rattle.pn_resolve.specs.Meaning.{all_sorts, declared_sort, meaning, sort_at_place, sort_with}
use Rattle.pn_syntax.specs.declared.declaration.Declaration.{Declaration}
use Rattle.pn_syntax.specs.declared.declaration.Declaration.TheVariants as declarations
use Rattle.pn_syntax.specs.declared.declaration.SortBody.TheVariants as bodies
use Rattle.pn_syntax.specs.declared.sort_expr.SortExpr.{SortExpr}
use Rattle.pn_syntax.specs.declared.sort_expr.SortNode.TheOpen as layer
use Rattle.pn_syntax.specs.declared.sort_expr.SortNode.TheViews.{out-SortNode}
use Rattle.pn_terms.proofs.SortLemmas.{same_some}
use Rattle.pn_values.specs.declared.sort.Sort.{Sort}
use Rattle.pn_values.specs.declared.sort.Sort.TheOpen as sort_layer
use Rattle.pn_values.specs.declared.sort.Sort.TheVariants as sorts
use Rattle.pn_values.specs.declared.sort.Sort.TheVariants.{rolls-Dot, rolls-Bool, rolls-Range, rolls-Product, rolls-Integer, rolls-Natural, rolls-Positive, rolls-Text, rolls-List}
use Rattle.pn_values.specs.declared.sort.Sort.TheViews.{roll-Sort}
use Rattle.pn_values.specs.declared.value.Value.{Value}
use Rattle.pn_values.specs.declared.value.Value.TheVariants as values
use Rattle.pn_mode_text.proofs.ConstantLemmas.{HasConstants, IsNamed}
use Rattle.pn_mode_text.specs.ModeReadings.{AreInhabited}
use Rattle.pn_mode_text.specs.ValueReadings.{HaveIds}

-- a sort has a value
abbrev HasMember : List ℕ → Sort → Type 0
HasMember widths s = (v : Value) × IsMember widths v s

-- a range that is not empty holds its first number
first_within : (start end : ℤ) → int_lt end start ≡ false → (int_le start start && int_le start end) ≡ true
first_within (pos a) (pos b) some = and_both (leb a a) (leb a b) (grind (arith, nat_tests)) (grind (arith, nat_tests))
first_within (pos a) (negsuc b) some = absurd (false≢true (sym some))
first_within (negsuc a) (pos b) some = and_both (leb a a) true (grind (arith, nat_tests)) refl
first_within (negsuc a) (negsuc b) some = and_both (leb a a) (leb b a) (grind (arith, nat_tests)) (grind (arith, nat_tests))

module _ (items : List Declaration) (have : AllByRecursion HasConstants items) where
  abbrev widths : List ℕ
  widths = widths_of items

  module _ (m : List ℕ → Option Sort) (named : (name : List ℕ) (s : Sort) → m name ≡ Some s → HasMember widths s) where
    abbrev HasValue : SortExpr → Type 0
    HasValue e = (s : Sort) → sort_with m e ≡ Some s → HasMember widths s

    -- a value of a sort that is one layer of others
    of_layer : (x : sort_layer.Sort-F Sort) (v : Value) (s : Sort) → roll-Sort x ≡ s → is_member widths (roll-Sort x) v ≡ true → HasMember widths s
    of_layer x v s is member = (v, subst (IsMember widths v) is member)

    parts_have : (ps : List SortExpr) → ((p : SortExpr) → Contains ps p → HasValue p) → (ss : List Sort) → all_sorts (map (sort_with m) ps) ≡ Some ss
        → (vs : List Value) × (pass_each (map (is_member widths) ss) vs ≡ true)
    parts_have [] each ss h = let none : [] ≡ ss = cc in ([], subst (λ xs. pass_each (map (is_member widths) xs) [] ≡ true) none refl)
    parts_have (p ∷ ps) each ss h =
        let parts = split_sorts (sort_with m p) (map (sort_with m) ps) ss h in
        let first = each p (contains_first p ps) parts.first parts.is_first in
        let more = parts_have ps (λ x c. each x (contains_next p ps x c)) parts.more parts.is_more in (
          first.0 ∷ more.0,
          subst (λ xs. pass_each (map (is_member widths) xs) (first.0 ∷ more.0) ≡ true) parts.whole
              (and_both (is_member widths parts.first first.0) (pass_each (map (is_member widths) parts.more) more.0) first.1 more.1),
        )

    range_has : (start end : ℤ) (t : Bool) (s : Sort) → int_lt end start ≡ t → cond t None (Some (sorts.Range start end)) ≡ Some s → HasMember widths s
    range_has start end true s is h = absurd cc
    range_has start end false s is h =
        of_layer (sort_layer.Range start end) (values.Int start) s (rolls-Range start end ∙ same_some (sorts.Range start end) s (Some s) (sym h) refl)
        (member_of_layer widths (sort_layer.Range start end) (values.Int start) ∙ ap (is_between start end) (out-int start) ∙ first_within start end is)

    leaf : (e : SortExpr) (l : NodeLayer) (x s : Sort) → out-SortNode e.node ≡ l → sort_with m e ≡ Some x → sort_with m e ≡ Some s → x ≡ s
    leaf e l x s at is h = same_some x s _ is h

    value_step : (l : NodeLayer) (e : SortExpr) → out-SortNode e.node ≡ l → ((p : SortExpr) → IsIn l p → HasValue p) → HasValue e
    value_step layer.Dot e at each s h =
        of_layer sort_layer.Dot values.Dot s (rolls-Dot ∙ same_some sorts.Dot s _ (sort_at m e layer.Dot at) h) (member_of_layer widths sort_layer.Dot values.Dot ∙ ap is_dot out-dot)
    value_step layer.Bool e at each s h =
        of_layer sort_layer.Bool (values.Bool true) s (rolls-Bool ∙ same_some sorts.Bool s _ (sort_at m e layer.Bool at) h) (member_of_layer widths sort_layer.Bool (values.Bool true) ∙ ap is_truth (out-bool true))
    value_step (layer.Range start end) e at each s h = range_has start end (int_lt end start) s refl (sym (sort_at m e (layer.Range start end) at) ∙ h)
    value_step (layer.Product parts) e at each s h =
        let ss = mapped_some sorts.Product (all_sorts (map (sort_with m) parts)) s (sym (sort_at m e (layer.Product parts) at) ∙ h) in
        let vs = parts_have parts each ss.0 ss.1 in
        of_layer (sort_layer.Product ss.0) (values.Tuple vs.0) s (rolls-Product ss.0 ∙ ss.2)
        (member_of_layer widths (sort_layer.Product ss.0) (values.Tuple vs.0) ∙ ap (is_tuple_of (map (is_member widths) ss.0)) (out-tuple vs.0) ∙ vs.1)
    value_step (layer.User name) e at each s h = named name s (sym (sort_at m e (layer.User name) at) ∙ h)
    value_step layer.Integer e at each s h =
        of_layer sort_layer.Integer (values.Int (pos 1)) s (rolls-Integer ∙ same_some sorts.Integer s _ (sort_at m e layer.Integer at) h) (member_of_layer widths sort_layer.Integer (values.Int (pos 1)) ∙ ap (is_between least_number greatest_number) (out-int (pos 1)))
    value_step layer.Natural e at each s h =
        of_layer sort_layer.Natural (values.Int (pos 1)) s (rolls-Natural ∙ same_some sorts.Natural s _ (sort_at m e layer.Natural at) h) (member_of_layer widths sort_layer.Natural (values.Int (pos 1)) ∙ ap (is_between (pos 0) greatest_number) (out-int (pos 1)))
    value_step layer.Positive e at each s h =
        of_layer sort_layer.Positive (values.Int (pos 1)) s (rolls-Positive ∙ same_some sorts.Positive s _ (sort_at m e layer.Positive at) h) (member_of_layer widths sort_layer.Positive (values.Int (pos 1)) ∙ ap (is_between (pos 1) greatest_number) (out-int (pos 1)))
    value_step layer.Text e at each s h =
        of_layer sort_layer.Text (values.Text []) s (rolls-Text ∙ same_some sorts.Text s _ (sort_at m e layer.Text at) h) (member_of_layer widths sort_layer.Text (values.Text []) ∙ ap is_document_text (out_text_value []))
    value_step (layer.List part) e at each s h =
        let inner = mapped_some sorts.List (sort_with m part) s (sym (sort_at m e (layer.List part) at) ∙ h) in
        of_layer (sort_layer.List inner.0) (values.List []) s (rolls-List inner.0 ∙ inner.2) (member_of_layer widths (sort_layer.List inner.0) (values.List []) ∙ ap (is_list_of (is_member widths inner.0)) (out_list_value []))

    sort_has : (e : SortExpr) → HasValue e
    sort_has = expr_ind HasValue value_step

    width_some : (place : ℕ) (d : Declaration) → slice_get items place ≡ Some d → 0 < length (constant_ids d) → 0 < width_of widths place
    width_some place d there some = omega (arith, some, width_there items place d there)

    own_has : (place : ℕ) (d : Declaration) (s : Sort) → slice_get items place ≡ Some d → HasConstants d → declared_sort m place d ≡ Some s → HasMember widths s
    own_has place (declarations.Named id name (bodies.Plain e) at) s there some h = sort_has e s h
    own_has place (declarations.Named id name (bodies.Finite constants) at) s there some h = (
      values.Const 0,
      subst (IsMember widths (values.Const 0)) (same_some (sorts.Enumeration place) s (Some s) (sym h) refl)
          (enumeration_has widths place 0 (width_some place (declarations.Named id name (bodies.Finite constants) at) there (omega (arith, some.0, length-map constants constant_id)))),
    )
    own_has place (declarations.Named id name (bodies.Cyclic constants) at) s there some h = (
      values.Const 0,
      subst (IsMember widths (values.Const 0)) (same_some (sorts.Enumeration place) s (Some s) (sym h) refl)
          (enumeration_has widths place 0 (width_some place (declarations.Named id name (bodies.Cyclic constants) at) there (omega (arith, some.0, length-map constants constant_id)))),
    )
    own_has place (declarations.Variable id name sort at) s there some h = absurd cc
    own_has place (declarations.Partition id name sort elements at) s there some h = (
      values.Const 0,
      subst (IsMember widths (values.Const 0)) (same_some (sorts.Partition place) s (Some s) (sym h) refl)
          (partition_has widths place 0 (width_some place (declarations.Partition id name sort elements at) there (omega (arith, some.0, length-map elements element_id)))),
    )

  meaning_has : (levels : ℕ) (name : List ℕ) (s : Sort) → meaning items levels name ≡ Some s → HasMember widths s
  meaning_has zero name s h = let none : None ≡ Some s = sym (meaning_none items name) ∙ h in absurd cc
  meaning_has (suc levels) name s h =
      let place = then_some (sort_at_place items levels) (sort_named items name) s (sym (meaning_next items levels name) ∙ h) in
      let d = then_some (declared_sort (meaning items levels) place.0) (slice_get items place.0) s place.2 in
      own_has (meaning items levels) (meaning_has levels) place.0 d.0 s d.1 (one_of HasConstants items d.0 have (contains_at items place.0 d.0 d.1)) d.2

  pub sorts_have_values : AreInhabited items
  sorts_have_values e s (levels, h) = sort_has (meaning items levels) (meaning_has levels) e s h

-- ---- ids

no_empty : {A : Type 0} (id : A → List ℕ) (xs : List A) → AllByRecursion (λ x. IsNamed (id x)) xs → (i : ℕ) → slice_get (map id xs) i ≡ Some [] → ⊥
no_empty id [] all i is = absurd cc
no_empty id (x ∷ xs) all zero is = let none : id x ≡ [] = cc in all.0 none
no_empty id (x ∷ xs) all (suc i) is = no_empty id xs all.1 i is

none_empty_in : (d : Declaration) → HasConstants d → (i : ℕ) → slice_get (constant_ids d) i ≡ Some [] → ⊥
none_empty_in (declarations.Named id name (bodies.Plain e) at) have i is = absurd cc
none_empty_in (declarations.Named id name (bodies.Finite constants) at) have i is = no_empty constant_id constants have.1 i is
none_empty_in (declarations.Named id name (bodies.Cyclic constants) at) have i is = no_empty constant_id constants have.1 i is
none_empty_in (declarations.Variable id name sort at) have i is = absurd cc
none_empty_in (declarations.Partition id name sort elements at) have i is = no_empty element_id elements have.1 i is

pub constants_have_names : (items : List Declaration) → AllByRecursion HasConstants items → HaveIds items
constants_have_names items have place index is =
    let d = then_some (λ (x : Declaration). slice_get (constant_ids x) index) (slice_get items place) [] is in
    none_empty_in d.0 (one_of HasConstants items d.0 have (contains_at items place d.0 d.1)) index d.2
