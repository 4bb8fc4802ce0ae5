-- An expression that has a sort within the limits has no fault.
use Rattle.std.proofs.Common.{◌≡◌, ◌⊎◌, inl, inr, ℕ, zero, suc, cond, List, [], ◌∷◌, map, Option, Some, None, sym, ap, subst, ◌∙◌}
use Rattle.std.specs.List.{Contains}
use Rattle.std.specs.Option.{option_and_then}
use Rattle.pn_facts.proofs.Contained.{contains_cases, contains_first, contains_next, contains_nil}
use Rattle.pn_faults.specs.declared.fault.Fault.{Fault}
use Rattle.pn_names.specs.Names.{sort_named}
use Rattle.pn_resolve.proofs.Expressions.{out_list, out_product, out_range, out_user, sort_at}
use Rattle.pn_resolve.proofs.ExtentLemmas.{IsSmall, by_limits, small_list, small_not_big, small_product}
use Rattle.pn_resolve.proofs.Meanings.{meaning_next, meaning_none, resolves_once, split_sorts}
use Rattle.pn_resolve.proofs.Options.{mapped_some}
use Rattle.pn_resolve.specs.Meaning.{Resolves, all_sorts, meaning, sort_at_place, sort_with}
use Rattle.pn_resolve.specs.Standing.{IsBig, IsSortPart, StandsAtSort, StandsInSort, empty_range, itself, list, product, sort_too_big, unknown_sort}
use Rattle.pn_syntax.specs.declared.declaration.Declaration.{Declaration}
use Rattle.pn_syntax.specs.declared.sort_expr.SortExpr.{SortExpr}
use Rattle.pn_syntax.specs.declared.sort_expr.SortNode.TheOpen as written_layer
use Rattle.pn_values.specs.Sizes.{depth_of, nodes_of}
use Rattle.pn_values.specs.declared.sort.Sort.{Sort}
use Rattle.pn_values.specs.declared.sort.Sort.TheVariants as sorts

-- ---- the parts of a sort are no bigger

pub within_limits : (s : Sort) → (IsBig s → ⊥) → IsSmall s
within_limits s small = by_limits (depth_of s) (nodes_of s) (λ d n. record { depth = d; nodes = n }) (λ big. absurd (small big))

pub part_small : (ss : List Sort) → (IsBig (sorts.Product ss) → ⊥) → (s : Sort) → Contains ss s → IsBig s → ⊥
part_small ss small s c = small_not_big s (small_product ss (within_limits (sorts.Product ss) small) s c)

pub item_small : (s : Sort) → (IsBig (sorts.List s) → ⊥) → IsBig s → ⊥
item_small s small = small_not_big s (small_list s (within_limits (sorts.List s) small))

-- ---- the parts of an expression

-- each part has one of the sorts
sorts_have : (m : List ℕ → Option Sort) (ps : List SortExpr) (ss : List Sort) → all_sorts (map (sort_with m) ps) ≡ Some ss → (p : SortExpr) → Contains ps p → (s : Sort) × (sort_with m p ≡ Some s) × Contains ss s
sorts_have m [] ss h p c = absurd (contains_nil p c)
sorts_have m (q ∷ ps) ss h p c = by (contains_cases q ps p c) (λ rs k there. sorts_have m ps rs k p there)
  where
    by : (q ≡ p) ⊎ Contains ps p → ((rs : List Sort) → all_sorts (map (sort_with m) ps) ≡ Some rs → Contains ps p → (s : Sort) × (sort_with m p ≡ Some s) × Contains rs s) → (s : Sort) × (sort_with m p ≡ Some s) × Contains ss s
    by (inl same) more =
        let parts = split_sorts (sort_with m q) (map (sort_with m) ps) ss h in
        (parts.first, ap (sort_with m) (sym same) ∙ parts.is_first, subst (λ xs. Contains xs parts.first) parts.whole (contains_first parts.first parts.more))
    by (inr there) more =
        let parts = split_sorts (sort_with m q) (map (sort_with m) ps) ss h in
        let rest = more parts.more parts.is_more there in
        (rest.0, rest.1, subst (λ xs. Contains xs rest.0) parts.whole (contains_next parts.first parts.more rest.0 rest.2))

small_part : (m : List ℕ → Option Sort) (e x : SortExpr) → IsSortPart e x → (s : Sort) → sort_with m e ≡ Some s → (IsBig s → ⊥) → (t : Sort) × (sort_with m x ≡ Some t) × (IsBig t → ⊥)
small_part m e x (itself _ _ same) s h small = (s, ap (sort_with m) same ∙ h, small)
small_part m e x (product _ _ p parts is c rest) s h small =
    let ss = mapped_some sorts.Product (all_sorts (map (sort_with m) parts)) s (sym (sort_at m e (written_layer.Product parts) (out_product e.node parts is)) ∙ h) in
    let one = sorts_have m parts ss.0 ss.1 p c in
    small_part m p x rest one.0 one.1 (part_small ss.0 (λ big. small (subst IsBig ss.2 big)) one.0 one.2)
small_part m e x (list _ _ p is rest) s h small =
    let inner = mapped_some sorts.List (sort_with m p) s (sym (sort_at m e (written_layer.List p) (out_list e.node p is)) ∙ h) in
    small_part m p x rest inner.0 inner.1 (item_small inner.0 (λ big. small (subst IsBig inner.2 big)))

unknown_means : (items : List Declaration) (levels : ℕ) (name : List ℕ) → sort_named items name ≡ None → meaning items levels name ≡ None
unknown_means items zero name none = meaning_none items name
unknown_means items (suc levels) name none = meaning_next items levels name ∙ ap (option_and_then (sort_at_place items levels)) none

no_fault_at : (items : List Declaration) (levels : ℕ) (x : SortExpr) (t : Sort) (f : Fault) → sort_with (meaning items levels) x ≡ Some t → (IsBig t → ⊥) → StandsAtSort items x f → ⊥
no_fault_at items levels x t f h small (unknown_sort _ _ name is none _) =
    let bad : None ≡ Some t = sym (unknown_means items levels name none) ∙ sym (sort_at (meaning items levels) x (written_layer.User name) (out_user x.node name is)) ∙ h in
    cc
no_fault_at items levels x t f h small (empty_range _ _ start end is empty _) =
    let bad : None ≡ Some t = sym (ap (λ b. cond b None (Some (sorts.Range start end))) empty) ∙ sym (sort_at (meaning items levels) x (written_layer.Range start end) (out_range x.node start end is)) ∙ h in
    cc
no_fault_at items levels x t f h small (sort_too_big _ _ (u, resolves, big) _) = small (subst IsBig (resolves_once items x u t resolves (levels, h)) big)

-- no fault stands in it
pub sound_sort : (items : List Declaration) (e : SortExpr) (s : Sort) (f : Fault) → Resolves items e s → (IsBig s → ⊥) → StandsInSort items e f → ⊥
sound_sort items e s f (levels, h) small (x, part, stands) =
    let own = small_part (meaning items levels) e x part s h small in
    no_fault_at items levels x own.0 f own.1 own.2 stands
