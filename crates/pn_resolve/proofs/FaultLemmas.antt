-- Which faults are told of an expression, and what stands behind one without a sort.
use Rattle.std.proofs.Common.{◌≡◌, ◌⊎◌, inl, inr, ℕ, suc, ◌+◌, max, Bool, true, false, cond, List, [], ◌∷◌, ◌++◌, map, Option, Some, None, int_lt, codes, ℤ, refl, sym, ap, ◌∙◌, subst}
use Rattle.std.specs.List.{Contains, flat_map}
use Rattle.pn_faults.specs.declared.fault.Fault.{Fault}
use Rattle.pn_faults.specs.Order.{fault_at}
use Rattle.pn_faults.specs.declared.reason.Reason.TheVariants as reasons
use Rattle.pn_syntax.specs.declared.declaration.Declaration.{Declaration}
use Rattle.pn_syntax.specs.declared.sort_expr.SortExpr.{SortExpr}
use Rattle.pn_syntax.specs.declared.sort_expr.SortNode.{SortNode, map-SortNode}
use Rattle.pn_syntax.specs.declared.sort_expr.SortNode.TheOpen as layer
use Rattle.pn_syntax.specs.declared.sort_expr.SortNode.TheVariants as nodes
use Rattle.pn_syntax.specs.declared.sort_expr.SortNode.TheViews.{out-SortNode}
use Rattle.pn_syntax.specs.declared.sort_expr.SortNode.TheFolds.{fold-SortNode}
use Rattle.pn_names.specs.Names.{sort_named}
use Rattle.pn_resolve.specs.declared.extent.Extent.{Extent}
use Rattle.pn_resolve.specs.declared.extent.Extent.TheVariants.{NoSort, TooBig, Fits}
use Rattle.pn_resolve.specs.Extents.{beside, all_beside, around}
use Rattle.pn_resolve.specs.Standing.{IsSortPart, itself, product, list, layer_name, element_name, IsTooBig, StandsAtSort, unknown_sort, sort_too_big, empty_range, StandsInSort}
use Rattle.pn_resolve.specs.Telling.{Told, told_extent, told_faults, single, told_name, told_parts, too_big, told_big, told_inside, told_node, told}
use Rattle.pn_resolve.proofs.ExtentLemmas.{measured_not_none}
use Rattle.pn_facts.proofs.Contained.{contains_nil, contains_first, contains_next, contains_all_of, contains_some_of, contains_one}
use Rattle.std.proofs.lemmas.List.Elements.{Contains-append_left, Contains-append_right, Contains-append_cases}
use Rattle.pn_resolve.proofs.Expressions.{NodeLayer, IsIn, expr_ind, told_at, out_product, out_list, out_user, out_range, is_user, is_range, part_of_part}

-- the faults of parts stand among those of the whole
module _ (known : List ℕ → Option Extent) (f : Fault) where
  abbrev Tells : SortExpr → Type 0
  Tells e = Contains (told known e).faults f

  told_parts_of : (ps : List SortExpr) → flat_map told_faults (map (told known) ps) ≡ flat_map (λ p. (told known p).faults) ps
  told_parts_of [] = refl
  told_parts_of (p ∷ ps) = ap (λ l. (told known p).faults ++ l) (told_parts_of ps)

  in_product : (e p : SortExpr) (parts : List SortExpr) → e.node ≡ nodes.Product parts → Contains parts p → Tells p → Tells e
  in_product e p parts is c tells =
      subst (λ t. Contains (told_faults t) f) (sym (told_at known e (layer.Product parts) (out_product e.node parts is)))
      (Contains-append_left (flat_map told_faults (map (told known) parts)) _ f (subst (λ l. Contains l f) (sym (told_parts_of parts)) (contains_all_of (λ p. (told known p).faults) parts p f c tells)))

  in_list : (e p : SortExpr) → e.node ≡ nodes.List p → Tells p → Tells e
  in_list e p is tells =
      subst (λ t. Contains (told_faults t) f) (sym (told_at known e (layer.List p) (out_list e.node p is)))
      (Contains-append_left (told known p).faults _ f tells)

  pub told_of_part : (e x : SortExpr) → IsSortPart e x → Tells x → Tells e
  told_of_part e x (itself _ _ same) tells = subst Tells same tells
  told_of_part e x (product _ _ p parts is c rest) tells = in_product e p parts is c (told_of_part p x rest tells)
  told_of_part e x (list _ _ p is rest) tells = in_list e p is (told_of_part p x rest tells)

same_name : (known : List ℕ → Option Extent) (l : NodeLayer) → layer_name (map-SortNode SortNode SortExpr (ℕ → Told) Told (fold-SortNode (ℕ → Told) Told (told_node known) (λ e. e.node e.at)) (told known) l) ≡ layer_name l
same_name known layer.Dot = refl
same_name known layer.Bool = refl
same_name known (layer.Range start end) = refl
same_name known (layer.Product parts) = refl
same_name known (layer.User name) = refl
same_name known layer.Integer = refl
same_name known layer.Natural = refl
same_name known layer.Positive = refl
same_name known layer.Text = refl
same_name known (layer.List part) = refl

-- what is known of names is right: unknown are the names of no sort, and too big the sorts that are
pub record KnowsFaults (items : List Declaration) (known : List ℕ → Option Extent) : Type 0 where
  pub unknown : (name : List ℕ) → sort_named items name ≡ None → known name ≡ None
  pub only_unknown : (name : List ℕ) → known name ≡ None → sort_named items name ≡ None
  pub big : (e : SortExpr) → IsTooBig items e → (told known e).extent ≡ TooBig
  pub only_big : (e : SortExpr) → (told known e).extent ≡ TooBig → IsTooBig items e

-- a fault that an element has is told of it
module _ (items : List Declaration) (known : List ℕ → Option Extent) (right : KnowsFaults items known) where
  told_unknown : (e : SortExpr) (f : Fault) (name : List ℕ) → e.node ≡ nodes.User name → sort_named items name ≡ None → f ≡ fault_at reasons.UnknownSort e.at name → Contains (told known e).faults f
  told_unknown e f name is none f_is =
      let at : told known e ≡ told_big e.at (codes "usersort") (told_name e.at name None) = told_at known e (layer.User name) (out_user e.node name is) ∙ ap (λ o. told_big e.at (codes "usersort") (told_name e.at name o)) (right.unknown name none) in
      subst (λ t. Contains (told_faults t) f) (sym at) (subst (λ g. Contains (fault_at reasons.UnknownSort e.at name ∷ []) g) (sym f_is) (contains_first (fault_at reasons.UnknownSort e.at name) []))

  told_too_big : (e : SortExpr) (f : Fault) → IsTooBig items e → f ≡ fault_at reasons.SortTooBig e.at (element_name e) → Contains (told known e).faults f
  told_too_big e f big f_is =
      let layer_told = map-SortNode SortNode SortExpr (ℕ → Told) Told (fold-SortNode (ℕ → Told) Told (told_node known) (λ x. x.node x.at)) (told known) (out-SortNode e.node) in
      let inside = told_inside known e.at layer_told in
      let at : told known e ≡ told_big e.at (layer_name layer_told) inside = told_at known e (out-SortNode e.node) refl in
      let extent : inside.extent ≡ TooBig = sym (ap told_extent at) ∙ right.big e big in
      let fault : f ≡ fault_at reasons.SortTooBig e.at (layer_name layer_told) = f_is ∙ ap (fault_at reasons.SortTooBig e.at) (sym (same_name known (out-SortNode e.node))) in
      subst (λ t. Contains (told_faults t) f) (sym at)
      (Contains-append_right inside.faults (too_big e.at (layer_name layer_told) inside.extent) f (subst (λ x. Contains (too_big e.at (layer_name layer_told) x) f) (sym extent) (subst (λ g. Contains (g ∷ []) f) fault (contains_first f []))))

  told_empty : (e : SortExpr) (f : Fault) (start end : ℤ) → e.node ≡ nodes.Range start end → int_lt end start ≡ true → f ≡ fault_at reasons.EmptyRange e.at (codes "finiteintrange") → Contains (told known e).faults f
  told_empty e f start end is empty f_is =
      let at : told known e ≡ told_big e.at (codes "finiteintrange") (cond true (record { extent = NoSort; faults = fault_at reasons.EmptyRange e.at (codes "finiteintrange") ∷ [] }) single) =
      told_at known e (layer.Range start end) (out_range e.node start end is) ∙ ap (λ b. told_big e.at (codes "finiteintrange") (cond b (record { extent = NoSort; faults = fault_at reasons.EmptyRange e.at (codes "finiteintrange") ∷ [] }) single)) empty in
      subst (λ t. Contains (told_faults t) f) (sym at) (subst (λ g. Contains (fault_at reasons.EmptyRange e.at (codes "finiteintrange") ∷ []) g) (sym f_is) (contains_first (fault_at reasons.EmptyRange e.at (codes "finiteintrange")) []))

  told_of_element : (e : SortExpr) (f : Fault) → StandsAtSort items e f → Contains (told known e).faults f
  told_of_element e f (unknown_sort _ _ name is none f_is) = told_unknown e f name is none f_is
  told_of_element e f (sort_too_big _ _ big f_is) = told_too_big e f big f_is
  told_of_element e f (empty_range _ _ start end is empty f_is) = told_empty e f start end is empty f_is

  -- each fault that stands in an expression is told of it
  pub stands_told : (e : SortExpr) (f : Fault) → StandsInSort items e f → Contains (told known e).faults f
  stands_told e f stands = told_of_part known f e stands.0 stands.1 (told_of_element stands.0 f stands.2)

  abbrev AllStand : SortExpr → Type 0
  AllStand e = (f : Fault) → Contains (told known e).faults f → StandsInSort items e f

  here : (e : SortExpr) (f : Fault) → StandsAtSort items e f → StandsInSort items e f
  here e f stands = (e, itself e e refl, stands)

  big_stands : (e : SortExpr) (l : NodeLayer) (f : Fault) (x : Extent) → out-SortNode e.node ≡ l → (told known e).extent ≡ x → Contains (too_big e.at (layer_name l) x) f → StandsInSort items e f
  big_stands e l f NoSort at is c = absurd (contains_nil f c)
  big_stands e l f TooBig at is c =
      here e f (sort_too_big e f (right.only_big e is) (contains_one (fault_at reasons.SortTooBig e.at (layer_name l)) f c ∙ ap (λ m. fault_at reasons.SortTooBig e.at (layer_name m)) (sym at)))
  big_stands e l f (Fits d n) at is c = absurd (contains_nil f c)

  from_part : (l : NodeLayer) (e p : SortExpr) (f : Fault) → out-SortNode e.node ≡ l → IsIn l p → StandsInSort items p f → StandsInSort items e f
  from_part l e p f at is stands = (stands.0, part_of_part l e p stands.0 at is stands.1, stands.2)

  nothing_told : (l : NodeLayer) (e : SortExpr) (name : List ℕ) → told known e ≡ told_big e.at name single → AllStand e
  nothing_told l e name is f c = absurd (contains_nil f (subst (λ t. Contains (told_faults t) f) is c))

  range_stands : (e : SortExpr) (start end : ℤ) → out-SortNode e.node ≡ layer.Range start end → (b : Bool) → int_lt end start ≡ b → AllStand e
  range_stands e start end at false is f c =
      nothing_told (layer.Range start end) e (codes "finiteintrange") (told_at known e (layer.Range start end) at ∙ ap (λ b. told_big e.at (codes "finiteintrange") (cond b (record { extent = NoSort; faults = fault_at reasons.EmptyRange e.at (codes "finiteintrange") ∷ [] }) single)) is) f c
  range_stands e start end at true is f c =
      let told_is : told known e ≡ told_big e.at (codes "finiteintrange") (cond true (record { extent = NoSort; faults = fault_at reasons.EmptyRange e.at (codes "finiteintrange") ∷ [] }) single) =
      told_at known e (layer.Range start end) at ∙ ap (λ b. told_big e.at (codes "finiteintrange") (cond b (record { extent = NoSort; faults = fault_at reasons.EmptyRange e.at (codes "finiteintrange") ∷ [] }) single)) is in
      here e f (empty_range e f start end (is_range e.node start end at) is (contains_one (fault_at reasons.EmptyRange e.at (codes "finiteintrange")) f (subst (λ t. Contains (told_faults t) f) told_is c)))

  name_stands : (e : SortExpr) (name : List ℕ) → out-SortNode e.node ≡ layer.User name → (o : Option Extent) → known name ≡ o → AllStand e
  name_stands e name at None is f c =
      let told_is : told known e ≡ told_big e.at (codes "usersort") (told_name e.at name None) = told_at known e (layer.User name) at ∙ ap (λ o. told_big e.at (codes "usersort") (told_name e.at name o)) is in
      here e f (unknown_sort e f name (is_user e.node name at) (right.only_unknown name is) (contains_one (fault_at reasons.UnknownSort e.at name) f (subst (λ t. Contains (told_faults t) f) told_is c)))
  name_stands e name at (Some x) is f c =
      let told_is : told known e ≡ told_big e.at (codes "usersort") (told_name e.at name (Some x)) = told_at known e (layer.User name) at ∙ ap (λ o. told_big e.at (codes "usersort") (told_name e.at name o)) is in
      big_stands e (layer.User name) f x at (ap told_extent told_is) (subst (λ t. Contains (told_faults t) f) told_is c)

  stand_step : (l : NodeLayer) (e : SortExpr) → out-SortNode e.node ≡ l → ((p : SortExpr) → IsIn l p → AllStand p) → AllStand e
  stand_step layer.Dot e at have = nothing_told layer.Dot e (codes "dot") (told_at known e layer.Dot at)
  stand_step layer.Bool e at have = nothing_told layer.Bool e (codes "bool") (told_at known e layer.Bool at)
  stand_step (layer.Range start end) e at have = range_stands e start end at (int_lt end start) refl
  stand_step (layer.Product parts) e at have = λ f c.
      let told_is = told_at known e (layer.Product parts) at in
      let either = Contains-append_cases (flat_map told_faults (map (told known) parts)) (too_big e.at (codes "productsort") (around (told_parts (map (told known) parts)).extent)) f (subst (λ t. Contains (told_faults t) f) told_is c) in
      elim either [
        | inl inside ↦ (let p = contains_some_of (λ p. (told known p).faults) parts f (subst (λ l. Contains l f) (told_parts_of known f parts) inside) in from_part (layer.Product parts) e p.0 f at p.1 (have p.0 p.1 f p.2))
        | inr big ↦ big_stands e (layer.Product parts) f (around (told_parts (map (told known) parts)).extent) at (ap told_extent told_is) big
      ]
  stand_step (layer.User name) e at have = name_stands e name at (known name) refl
  stand_step layer.Integer e at have = nothing_told layer.Integer e (codes "integer") (told_at known e layer.Integer at)
  stand_step layer.Natural e at have = nothing_told layer.Natural e (codes "natural") (told_at known e layer.Natural at)
  stand_step layer.Positive e at have = nothing_told layer.Positive e (codes "positive") (told_at known e layer.Positive at)
  stand_step layer.Text e at have = nothing_told layer.Text e (codes "string") (told_at known e layer.Text at)
  stand_step (layer.List part) e at have = λ f c.
      let told_is = told_at known e (layer.List part) at in
      let either = Contains-append_cases (told known part).faults (too_big e.at (codes "list") (around (told known part).extent)) f (subst (λ t. Contains (told_faults t) f) told_is c) in
      elim either [
        | inl inside ↦ from_part (layer.List part) e part f at refl (have part refl f inside)
        | inr big ↦ big_stands e (layer.List part) f (around (told known part).extent) at (ap told_extent told_is) big
      ]

  -- each fault that is told of an expression stands in it
  pub told_stands : (e : SortExpr) (f : Fault) → Contains (told known e).faults f → StandsInSort items e f
  told_stands e f c = expr_ind AllStand stand_step e f c

-- why an expression has no sort: a fault is told of it, or a name in it means something without a sort
pub data Why (known : List ℕ → Option Extent) : SortExpr → Type 0 where
  by_fault : (e : SortExpr) (f : Fault) → Contains (told known e).faults f → Why known e
  by_name : (e x : SortExpr) (name : List ℕ) → IsSortPart e x → x.node ≡ nodes.User name → known name ≡ Some NoSort → Why known e

module _ (known : List ℕ → Option Extent) where
  abbrev HasWhy : SortExpr → Type 0
  HasWhy e = (told known e).extent ≡ NoSort → Why known e

  around_none : (x : Extent) → around x ≡ NoSort → x ≡ NoSort
  around_none NoSort h = refl
  around_none TooBig h = absurd cc
  around_none (Fits d n) h = absurd (measured_not_none (suc d) (suc n) h)

  either_none : (a b : Extent) → beside a b ≡ NoSort → (a ≡ NoSort) ⊎ (b ≡ NoSort)
  either_none NoSort b h = inl refl
  either_none TooBig NoSort h = inr refl
  either_none TooBig TooBig h = absurd cc
  either_none TooBig (Fits d n) h = absurd cc
  either_none (Fits d n) NoSort h = inr refl
  either_none (Fits d n) TooBig h = absurd cc
  either_none (Fits d n) (Fits d' n') h = absurd (measured_not_none (max d d') (n + n') h)

  one_none : (ps : List SortExpr) (total : Extent) → all_beside total (map told_extent (map (told known) ps)) ≡ NoSort → (total ≡ NoSort) ⊎ ((p : SortExpr) × Contains ps p × ((told known p).extent ≡ NoSort))
  one_none [] total h = inl h
  one_none (p ∷ ps) total h = elim (one_none ps (beside total (told known p).extent) h) [
    | inl first ↦ elim (either_none total (told known p).extent first) [ inl a ↦ inl a | inr b ↦ inr (p, contains_first p ps, b) ]
    | inr later ↦ inr (later.0, contains_next p ps later.0 later.1, later.2)
  ]

  why_whole : (l : NodeLayer) (e p : SortExpr) → out-SortNode e.node ≡ l → IsIn l p → Why known p → Why known e
  why_whole l e p at is (by_fault _ f c) = by_fault e f (told_of_part known f e p (part_of_part l e p p at is (itself p p refl)) c)
  why_whole l e p at is (by_name _ x name part node none) = by_name e x name (part_of_part l e p x at is part) node none

  no_single : (l : NodeLayer) (e : SortExpr) (name : List ℕ) → told known e ≡ told_big e.at name single → HasWhy e
  no_single l e name is h = let bad : Fits 1 1 ≡ NoSort = sym (ap told_extent is) ∙ h in absurd cc

  range_why : (e : SortExpr) (start end : ℤ) → out-SortNode e.node ≡ layer.Range start end → (b : Bool) → int_lt end start ≡ b → HasWhy e
  range_why e start end at false is h =
      no_single (layer.Range start end) e (codes "finiteintrange") (told_at known e (layer.Range start end) at ∙ ap (λ b. told_big e.at (codes "finiteintrange") (cond b (record { extent = NoSort; faults = fault_at reasons.EmptyRange e.at (codes "finiteintrange") ∷ [] }) single)) is) h
  range_why e start end at true is h =
      let told_is : told known e ≡ told_big e.at (codes "finiteintrange") (cond true (record { extent = NoSort; faults = fault_at reasons.EmptyRange e.at (codes "finiteintrange") ∷ [] }) single) =
      told_at known e (layer.Range start end) at ∙ ap (λ b. told_big e.at (codes "finiteintrange") (cond b (record { extent = NoSort; faults = fault_at reasons.EmptyRange e.at (codes "finiteintrange") ∷ [] }) single)) is in
      by_fault e (fault_at reasons.EmptyRange e.at (codes "finiteintrange")) (subst (λ t. Contains (told_faults t) (fault_at reasons.EmptyRange e.at (codes "finiteintrange"))) (sym told_is) (contains_first (fault_at reasons.EmptyRange e.at (codes "finiteintrange")) []))

  name_why : (e : SortExpr) (name : List ℕ) → out-SortNode e.node ≡ layer.User name → (o : Option Extent) → known name ≡ o → HasWhy e
  name_why e name at None is h =
      let told_is : told known e ≡ told_big e.at (codes "usersort") (told_name e.at name None) = told_at known e (layer.User name) at ∙ ap (λ o. told_big e.at (codes "usersort") (told_name e.at name o)) is in
      by_fault e (fault_at reasons.UnknownSort e.at name) (subst (λ t. Contains (told_faults t) (fault_at reasons.UnknownSort e.at name)) (sym told_is) (contains_first (fault_at reasons.UnknownSort e.at name) []))
  name_why e name at (Some x) is h =
      let told_is : told known e ≡ told_big e.at (codes "usersort") (told_name e.at name (Some x)) = told_at known e (layer.User name) at ∙ ap (λ o. told_big e.at (codes "usersort") (told_name e.at name o)) is in
      let none : x ≡ NoSort = sym (ap told_extent told_is) ∙ h in
      by_name e e name (itself e e refl) (is_user e.node name at) (is ∙ ap Some none)

  why_step : (l : NodeLayer) (e : SortExpr) → out-SortNode e.node ≡ l → ((p : SortExpr) → IsIn l p → HasWhy p) → HasWhy e
  why_step layer.Dot e at have = no_single layer.Dot e (codes "dot") (told_at known e layer.Dot at)
  why_step layer.Bool e at have = no_single layer.Bool e (codes "bool") (told_at known e layer.Bool at)
  why_step (layer.Range start end) e at have = range_why e start end at (int_lt end start) refl
  why_step (layer.Product parts) e at have = λ h.
      let none = around_none (told_parts (map (told known) parts)).extent (sym (ap told_extent (told_at known e (layer.Product parts) at)) ∙ h) in
      elim (one_none parts (Fits 0 0) none) [
        | inl a ↦ (let bad : Fits 0 0 ≡ NoSort = a in absurd cc)
        | inr p ↦ why_whole (layer.Product parts) e p.0 at p.1 (have p.0 p.1 p.2)
      ]
  why_step (layer.User name) e at have = name_why e name at (known name) refl
  why_step layer.Integer e at have = no_single layer.Integer e (codes "integer") (told_at known e layer.Integer at)
  why_step layer.Natural e at have = no_single layer.Natural e (codes "natural") (told_at known e layer.Natural at)
  why_step layer.Positive e at have = no_single layer.Positive e (codes "positive") (told_at known e layer.Positive at)
  why_step layer.Text e at have = no_single layer.Text e (codes "string") (told_at known e layer.Text at)
  why_step (layer.List part) e at have = λ h.
      why_whole (layer.List part) e part at refl (have part refl (around_none (told known part).extent (sym (ap told_extent (told_at known e (layer.List part) at)) ∙ h)))

  pub why : (e : SortExpr) → (told known e).extent ≡ NoSort → Why known e
  why e h = expr_ind HasWhy why_step e h
