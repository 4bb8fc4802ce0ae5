-- The end of an edge of the last group is due.
use Rattle.std.proofs.Common.{◌≡◌, ℕ, suc, ◌<◌, ◌≤◌, ◌≢◌, List, [], ◌∷◌, ◌++◌, length, get_or, Option, Some, None, Bool, true, false, ◌⊎◌, inl, inr, refl, sym, ap, ◌∙◌, subst, arith}
use Rattle.std.proofs.lemmas.List.{length_push, get_or_append_left, get_or_push}
use Rattle.std.proofs.lemmas.Bool.{cases_eq, cases_lt}
use Rattle.pn_cycles.specs.declared.search.Mark.{Mark}
use Rattle.pn_cycles.specs.declared.search.Mark.TheVariants.{Done}
use Rattle.pn_cycles.specs.declared.search.Group.{Group}
use Rattle.pn_cycles.specs.Graphs.{IsEdge, Leads, by_edge}
use Rattle.pn_cycles.specs.Searches.{mark_of, group_at, IsAccounted, is_done, is_open, is_pending, is_due, IsGroup, IsPath, IsUnderWay, LeadTo}
use Rattle.pn_cycles.proofs.Ways.{leads_to_edge}
use Rattle.pn_cycles.proofs.Paths.{same_group, same_path}

-- another node is due
module _ (edges : List (List ℕ)) (due due' : Option ℕ) (marks : List Mark) (stack pending : List ℕ) (path : List Group) (nodes : List ℕ) (cyclic : List Bool) (is : IsUnderWay edges due marks stack pending path nodes cyclic) where
  due_changes : ((group : Group) (end : ℕ) → IsAccounted marks pending due group end → IsAccounted marks pending due' group end) → IsUnderWay edges due' marks stack pending path nodes cyclic
  due_changes keep = record {
    marked = is.marked;
    told = is.told;
    stacked = is.stacked;
    stacked_at = is.stacked_at;
    listed = is.listed;
    listed_at = is.listed_at;
    grouped = same_path edges due due' marks marks stack stack pending pending path path (length path) (length stack) (length pending) (λ i h. refl) (λ a h. refl) (λ j h. refl) (λ g end low high. keep g end) is.grouped;
    counted = is.counted;
    forward = is.forward;
    closed = is.closed;
    cycles = is.cycles;
  }

-- a node that is done is not due any more
pub due_is_done : (edges : List (List ℕ)) (node at : ℕ) (marks : List Mark) (stack pending : List ℕ) (path : List Group) (nodes : List ℕ) (cyclic : List Bool) → mark_of marks node ≡ Done at → IsUnderWay edges (Some node) marks stack pending path nodes cyclic → IsUnderWay edges None marks stack pending path nodes cyclic
due_is_done edges node at marks stack pending path nodes cyclic done is = due_changes edges (Some node) None marks stack pending path nodes cyclic is keep
  where
    keep : (group : Group) (end : ℕ) → IsAccounted marks pending (Some node) group end → IsAccounted marks pending None group end
    keep group end (is_done i m) = is_done i m
    keep group end (is_open i m a b) = is_open i m a b
    keep group end (is_pending j a b e) = is_pending j a b e
    keep group end (is_due e) = let same : node ≡ end = cc in is_done at (subst (λ x. mark_of marks x ≡ Done at) same done)

-- any node may be due
pub due_at_will : (edges : List (List ℕ)) (node : ℕ) (marks : List Mark) (stack pending : List ℕ) (path : List Group) (nodes : List ℕ) (cyclic : List Bool) → IsUnderWay edges None marks stack pending path nodes cyclic → IsUnderWay edges (Some node) marks stack pending path nodes cyclic
due_at_will edges node marks stack pending path nodes cyclic is = due_changes edges None (Some node) marks stack pending path nodes cyclic is keep
  where
    keep : (group : Group) (end : ℕ) → IsAccounted marks pending None group end → IsAccounted marks pending (Some node) group end
    keep group end (is_done i m) = is_done i m
    keep group end (is_open i m a b) = is_open i m a b
    keep group end (is_pending j a b e) = is_pending j a b e
    keep group end (is_due e) = absurd cc

-- the edges of the last group are among those to be looked at
pub last_within : (edges : List (List ℕ)) (marks : List Mark) (stack pending : List ℕ) (path : List Group) (nodes : List ℕ) (cyclic : List Bool) → IsUnderWay edges None marks stack pending path nodes cyclic → (at : ℕ) → length path ≡ suc at → (group_at path at).edges ≤ length pending
last_within edges marks stack pending path nodes cyclic is at last =
    let top = subst (λ n. IsPath edges None marks stack pending path n (length stack) (length pending)) last is.grouped in
    top.0.within

module _ (edges : List (List ℕ)) (node : ℕ) (marks : List Mark) (stack pending front : List ℕ) (path : List Group) (nodes : List ℕ) (cyclic : List Bool) (is : IsUnderWay edges None marks stack pending path nodes cyclic) (pending_is : pending ≡ front ++ node ∷ []) (at : ℕ) (last : length path ≡ suc at) (some : (group_at path at).edges < length pending) where
  top : IsGroup edges None marks stack pending (group_at path at) (length stack) (length pending) × IsPath edges None marks stack pending path at (group_at path at).start (group_at path at).edges
  top = subst (λ n. IsPath edges None marks stack pending path n (length stack) (length pending)) last is.grouped

  pending_length : length pending ≡ suc (length front)
  pending_length = omega (arith, ap length pending_is, length_push front node)

  pending_same : (j : ℕ) → j < length front → get_or front j 0 ≡ get_or pending j 0
  pending_same j h = sym (ap (λ xs. get_or xs j 0) pending_is ∙ get_or_append_left front (node ∷ []) 0 j h)

  pending_last : get_or pending (length front) 0 ≡ node
  pending_last = ap (λ xs. get_or xs (length front) 0) pending_is ∙ get_or_push front node 0 (length front) refl

  keep : (g : Group) (end : ℕ) → IsAccounted marks pending None g end → IsAccounted marks front (Some node) g end
  keep g end (is_done i m) = is_done i m
  keep g end (is_open i m a b) = is_open i m a b
  keep g end (is_pending j a b e) = go (cases_lt j (length front))
    where
      go : (j < length front) ⊎ (length front ≤ j) → IsAccounted marks front (Some node) g end
      go (inl low) = is_pending j a low (pending_same j low ∙ e)
      go (inr high) =
          let same : j ≡ length front = omega (arith, pending_length) in
          is_due (ap Some (sym pending_last ∙ ap (λ i. get_or pending i 0) (sym same) ∙ e))
  keep g end (is_due e) = absurd cc

  source : (a : ℕ) × ((group_at path at).start ≤ a) × (a < length stack) × IsEdge edges (get_or stack a 0) node
  source =
      let s = top.0.sources (length front) (omega (arith, some, pending_length)) (omega (arith, pending_length)) in
      (s.0, s.1, s.2, subst (λ x. IsEdge edges (get_or stack s.0 0) x) pending_last s.3)

  pub take_edge : (start : ℕ) × IsEdge edges start node
  take_edge = (get_or stack source.0 0, source.3)

  pub take_lead : LeadTo edges stack node
  take_lead a h = go (cases_lt a source.0) (cases_eq a source.0) (group_at path at).cyclic refl
    where
      go : (a < source.0) ⊎ (source.0 ≤ a) → (a ≡ source.0) ⊎ (a ≢ source.0) → (b : Bool) → (group_at path at).cyclic ≡ b → Leads edges (get_or stack a 0) node
      go order (inl e) b c = by_edge (subst (λ i. IsEdge edges (get_or stack i 0) node) (sym e) source.3)
      go (inl below) (inr ne) b c = leads_to_edge (is.forward a source.0 below source.2) source.3
      go (inr above) (inr ne) true c = leads_to_edge (top.0.strong c a source.0 (omega (arith, source.1)) h source.1 source.2) source.3
      go (inr above) (inr ne) false c = absurd (ne (omega (arith, top.0.single c, source.1, source.2)))

  pub takes : IsUnderWay edges (Some node) marks stack front path nodes cyclic
  takes = record {
    marked = is.marked;
    told = is.told;
    stacked = is.stacked;
    stacked_at = is.stacked_at;
    listed = is.listed;
    listed_at = is.listed_at;
    grouped = subst (λ n. IsPath edges (Some node) marks stack front path n (length stack) (length front)) (sym last) (
      same_group edges None (Some node) marks marks stack stack pending front (group_at path at) (length stack) (length pending) (length front) (λ a h. refl) pending_same (omega (arith, some, pending_length)) (omega (arith, pending_length)) (keep (group_at path at)) top.0,
      same_path edges None (Some node) marks marks stack stack pending front path path at (group_at path at).start (group_at path at).edges (λ i h. refl) (λ a h. refl) (λ j h. pending_same j (omega (arith, some, pending_length))) (λ g end low high. keep g end) top.1,
    );
    counted = is.counted;
    forward = is.forward;
    closed = is.closed;
    cycles = is.cycles;
  }
