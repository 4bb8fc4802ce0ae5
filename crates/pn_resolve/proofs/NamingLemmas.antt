-- A sort that an expression writes names enumerations and partitions of the declarations only.
use Rattle.std.proofs.Common.{◌≡◌, ℕ, zero, suc, ℤ, List, [], ◌∷◌, map, Bool, true, false, int_lt, Option, None, Some, refl, sym, ap, ◌∙◌, subst}
use Rattle.std.specs.Prelude.{if◌then◌else◌}
use Rattle.std.specs.List.{Contains, slice_get, list_all}
use Rattle.pn_syntax.specs.declared.declaration.Declaration.{Declaration}
use Rattle.pn_syntax.specs.declared.declaration.Declaration.TheVariants as declarations
use Rattle.pn_syntax.specs.declared.declaration.SortBody.TheVariants as bodies
use Rattle.pn_syntax.specs.declared.sort_expr.SortExpr.{SortExpr}
use Rattle.pn_syntax.specs.declared.sort_expr.SortNode.TheOpen as layer
use Rattle.pn_syntax.specs.declared.sort_expr.SortNode.TheViews.{out-SortNode}
use Rattle.pn_values.specs.declared.sort.Sort.{Sort}
use Rattle.pn_values.specs.declared.sort.Sort.TheOpen as sort_layer
use Rattle.pn_values.specs.declared.sort.Sort.TheVariants as sorts
use Rattle.pn_values.specs.declared.sort.Sort.TheVariants.{rolls-Dot, rolls-Bool, rolls-Enumeration, rolls-Partition, rolls-Range, rolls-Product, rolls-Integer, rolls-Natural, rolls-Positive, rolls-Text, rolls-List}
use Rattle.pn_values.specs.declared.sort.Sort.TheViews.{roll-Sort}
use Rattle.pn_values.specs.declared.sort.Sort.TheFolds.{fold-roll-Sort, map-Sort}
use Rattle.pn_names.specs.Names.{sort_named}
use Rattle.pn_facts.proofs.Contained.{contains_first, contains_next}
use Rattle.pn_facts.proofs.Truths.{and_both}
use Rattle.pn_resolve.specs.Meaning.{all_sorts, declared_sort, meaning, sort_at_place, sort_with, Resolves}
use Rattle.pn_resolve.specs.Naming.{is_enumeration, is_partition, is_such, names_declared, names_declared_layer, NamesDeclared}
use Rattle.pn_resolve.proofs.Expressions.{NodeLayer, IsIn, expr_ind, sort_at}
use Rattle.pn_resolve.proofs.Meanings.{meaning_next, meaning_none, split_sorts}
use Rattle.pn_resolve.proofs.Options.{mapped_some, then_some}

same_sort : (x y : Sort) → Some x ≡ Some y → x ≡ y
same_sort x y h = cc

range_is : (b : Bool) (start end : ℤ) (s : Sort) → (if b then None else Some (sorts.Range start end)) ≡ Some s → sorts.Range start end ≡ s
range_is true start end s h = absurd cc
range_is false start end s h = same_sort (sorts.Range start end) s h

module _ (items : List Declaration) where
  by_layer : (x : sort_layer.Sort-F Sort) → names_declared_layer items (map-Sort Sort Bool (names_declared items) x) ≡ true → (s : Sort) → roll-Sort x ≡ s → NamesDeclared items s
  by_layer x h s is = ap (names_declared items) (sym is) ∙ fold-roll-Sort Bool (names_declared_layer items) x ∙ h

  module _ (m : List ℕ → Option Sort) (named : (name : List ℕ) (s : Sort) → m name ≡ Some s → NamesDeclared items s) where
    abbrev HasDeclared : SortExpr → Type 0
    HasDeclared e = (s : Sort) → sort_with m e ≡ Some s → NamesDeclared items s

    parts_declared : (ps : List SortExpr) → ((p : SortExpr) → Contains ps p → HasDeclared p) → (ss : List Sort) → all_sorts (map (sort_with m) ps) ≡ Some ss → list_all (λ part. part) (map (names_declared items) ss) ≡ true
    parts_declared [] have ss h = let none : [] ≡ ss = cc in subst (λ xs. list_all (λ part. part) (map (names_declared items) xs) ≡ true) none refl
    parts_declared (p ∷ ps) have ss h =
        let parts = split_sorts (sort_with m p) (map (sort_with m) ps) ss h in
        subst (λ xs. list_all (λ part. part) (map (names_declared items) xs) ≡ true) parts.whole
        (and_both (names_declared items parts.first) (list_all (λ part. part) (map (names_declared items) parts.more)) (have p (contains_first p ps) parts.first parts.is_first)
        (parts_declared ps (λ x c. have x (contains_next p ps x c)) parts.more parts.is_more))

    declared_step : (l : NodeLayer) (e : SortExpr) → out-SortNode e.node ≡ l → ((p : SortExpr) → IsIn l p → HasDeclared p) → HasDeclared e
    declared_step layer.Dot e at have s h = by_layer sort_layer.Dot refl s (rolls-Dot ∙ same_sort sorts.Dot s (sym (sort_at m e layer.Dot at) ∙ h))
    declared_step layer.Bool e at have s h = by_layer sort_layer.Bool refl s (rolls-Bool ∙ same_sort sorts.Bool s (sym (sort_at m e layer.Bool at) ∙ h))
    declared_step (layer.Range start end) e at have s h =
        by_layer (sort_layer.Range start end) refl s (rolls-Range start end ∙ range_is (int_lt end start) start end s (sym (sort_at m e (layer.Range start end) at) ∙ h))
    declared_step (layer.Product parts) e at have s h =
        let ss = mapped_some sorts.Product (all_sorts (map (sort_with m) parts)) s (sym (sort_at m e (layer.Product parts) at) ∙ h) in
        by_layer (sort_layer.Product ss.0) (parts_declared parts have ss.0 ss.1) s (rolls-Product ss.0 ∙ ss.2)
    declared_step (layer.User name) e at have s h = named name s (sym (sort_at m e (layer.User name) at) ∙ h)
    declared_step layer.Integer e at have s h = by_layer sort_layer.Integer refl s (rolls-Integer ∙ same_sort sorts.Integer s (sym (sort_at m e layer.Integer at) ∙ h))
    declared_step layer.Natural e at have s h = by_layer sort_layer.Natural refl s (rolls-Natural ∙ same_sort sorts.Natural s (sym (sort_at m e layer.Natural at) ∙ h))
    declared_step layer.Positive e at have s h = by_layer sort_layer.Positive refl s (rolls-Positive ∙ same_sort sorts.Positive s (sym (sort_at m e layer.Positive at) ∙ h))
    declared_step layer.Text e at have s h = by_layer sort_layer.Text refl s (rolls-Text ∙ same_sort sorts.Text s (sym (sort_at m e layer.Text at) ∙ h))
    declared_step (layer.List part) e at have s h =
        let inner = mapped_some sorts.List (sort_with m part) s (sym (sort_at m e (layer.List part) at) ∙ h) in
        by_layer (sort_layer.List inner.0) (have part refl inner.0 inner.1) s (rolls-List inner.0 ∙ inner.2)

    sort_declared : (e : SortExpr) → HasDeclared e
    sort_declared = expr_ind HasDeclared declared_step

    own_declared : (place : ℕ) (d : Declaration) (s : Sort) → slice_get items place ≡ Some d → declared_sort m place d ≡ Some s → NamesDeclared items s
    own_declared place (declarations.Named id name (bodies.Plain e) at) s there h = sort_declared e s h
    own_declared place (declarations.Named id name (bodies.Finite constants) at) s there h =
        by_layer (sort_layer.Enumeration place) (ap (is_such is_enumeration) there) s (rolls-Enumeration place ∙ same_sort (sorts.Enumeration place) s h)
    own_declared place (declarations.Named id name (bodies.Cyclic constants) at) s there h =
        by_layer (sort_layer.Enumeration place) (ap (is_such is_enumeration) there) s (rolls-Enumeration place ∙ same_sort (sorts.Enumeration place) s h)
    own_declared place (declarations.Variable id name sort at) s there h = absurd cc
    own_declared place (declarations.Partition id name sort elements at) s there h =
        by_layer (sort_layer.Partition place) (ap (is_such is_partition) there) s (rolls-Partition place ∙ same_sort (sorts.Partition place) s h)

meaning_declared : (items : List Declaration) (levels : ℕ) (name : List ℕ) (s : Sort) → meaning items levels name ≡ Some s → NamesDeclared items s
meaning_declared items zero name s h = let none : None ≡ Some s = sym (meaning_none items name) ∙ h in absurd cc
meaning_declared items (suc levels) name s h =
    let place = then_some (sort_at_place items levels) (sort_named items name) s (sym (meaning_next items levels name) ∙ h) in
    let d = then_some (declared_sort (meaning items levels) place.0) (slice_get items place.0) s place.2 in
    own_declared items (meaning items levels) (meaning_declared items levels) place.0 d.0 s d.1 d.2

pub resolved_declared : (items : List Declaration) (e : SortExpr) (s : Sort) → Resolves items e s → NamesDeclared items s
resolved_declared items e s (levels, h) = sort_declared items (meaning items levels) (meaning_declared items levels) e s h
