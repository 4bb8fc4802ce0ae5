-- A new node goes onto the stack.
use Rattle.std.proofs.Common.{◌≡◌, ℕ, suc, ◌+◌, ◌-◌, ◌<◌, ◌≤◌, ◌≢◌, List, [], ◌∷◌, ◌++◌, length, get_or, set, Some, None, Bool, false, ◌⊎◌, inl, inr, refl, sym, ap, ◌∙◌, subst, arith}
use Rattle.std.proofs.lemmas.List.{length-append, length-set, length_push, get_or-set_same, get_or-set_other, get_or_append_left, get_or_push, get_or-append-add, get_or_default}
use Rattle.std.proofs.lemmas.Bool.{cases_eq, cases_lt}
use Rattle.pn_cycles.specs.declared.search.Mark.{Mark}
use Rattle.pn_cycles.specs.declared.search.Mark.TheVariants.{New, Open, Done}
use Rattle.pn_cycles.specs.declared.search.Group.{Group}
use Rattle.pn_cycles.specs.Graphs.{IsEdge, Leads}
use Rattle.pn_cycles.specs.Searches.{mark_of, group_at, IsAccounted, is_done, is_open, is_pending, is_due, IsGroup, IsPath, IsUnderWay, LeadTo, new_count}
use Rattle.pn_cycles.proofs.Paths.{same_path}
use Rattle.pn_cycles.proofs.Working.{count_opened}

module _ (edges : List (List ℕ)) (node : ℕ) (marks marks' : List Mark) (stack stack' pending pending' : List ℕ) (path path' : List Group) (nodes : List ℕ) (cyclic : List Bool) (group : Group) (is : IsUnderWay edges (Some node) marks stack pending path nodes cyclic) (fresh : mark_of marks node ≡ New) (lead : LeadTo edges stack node) (within : node < length edges) (marks_is : marks' ≡ set marks node (Open (length stack))) (stack_is : stack' ≡ stack ++ node ∷ []) (pending_is : pending' ≡ pending ++ get_or edges node []) (path_is : path' ≡ path ++ group ∷ []) (start_is : group.start ≡ length stack) (edges_is : group.edges ≡ length pending) (cyclic_is : group.cyclic ≡ false) where
  marks_same : (x : ℕ) → x ≢ node → mark_of marks' x ≡ mark_of marks x
  marks_same x other = ap (λ ms. mark_of ms x) marks_is ∙ get_or-set_other marks node x (Open (length stack)) New other

  marks_node : mark_of marks' node ≡ Open (length stack)
  marks_node = ap (λ ms. mark_of ms node) marks_is ∙ get_or-set_same marks node (Open (length stack)) New (omega (arith, is.marked))

  stack_same : (a : ℕ) → a < length stack → get_or stack' a 0 ≡ get_or stack a 0
  stack_same a h = ap (λ xs. get_or xs a 0) stack_is ∙ get_or_append_left stack (node ∷ []) 0 a h

  stack_top : get_or stack' (length stack) 0 ≡ node
  stack_top = ap (λ xs. get_or xs (length stack) 0) stack_is ∙ get_or_push stack node 0 (length stack) refl

  stack_length : length stack' ≡ suc (length stack)
  stack_length = omega (arith, ap length stack_is, length_push stack node)

  pending_same : (j : ℕ) → j < length pending → get_or pending' j 0 ≡ get_or pending j 0
  pending_same j h = ap (λ xs. get_or xs j 0) pending_is ∙ get_or_append_left pending (get_or edges node []) 0 j h

  pending_row : (k : ℕ) → get_or pending' (length pending + k) 0 ≡ get_or (get_or edges node []) k 0
  pending_row k = ap (λ xs. get_or xs (length pending + k) 0) pending_is ∙ get_or-append-add pending (get_or edges node []) k 0

  pending_length : length pending' ≡ length pending + length (get_or edges node [])
  pending_length = ap length pending_is ∙ length-append pending (get_or edges node [])

  path_same : (i : ℕ) → i < length path → group_at path' i ≡ group_at path i
  path_same i h = ap (λ gs. group_at gs i) path_is ∙ get_or_append_left path (group ∷ []) (record { start = 0; edges = 0; cyclic = false }) i h

  path_top : group_at path' (length path) ≡ group
  path_top = ap (λ gs. group_at gs (length path)) path_is ∙ get_or_push path group (record { start = 0; edges = 0; cyclic = false }) (length path) refl

  path_length : length path' ≡ suc (length path)
  path_length = omega (arith, ap length path_is, length_push path group)

  -- what is not new is not the node
  other_open : (x at : ℕ) → mark_of marks x ≡ Open at → x ≢ node
  other_open x at m e = let n = ap (mark_of marks) e in cc

  other_done : (x at : ℕ) → mark_of marks x ≡ Done at → x ≢ node
  other_done x at m e = let n = ap (mark_of marks) e in cc

  still_open : (x at : ℕ) → mark_of marks x ≡ Open at → mark_of marks' x ≡ Open at
  still_open x at m = marks_same x (other_open x at m) ∙ m

  still_done : (x at : ℕ) → mark_of marks x ≡ Done at → mark_of marks' x ≡ Done at
  still_done x at m = marks_same x (other_done x at m) ∙ m

  was_done : (x at : ℕ) → mark_of marks' x ≡ Done at → mark_of marks x ≡ Done at
  was_done x at m = go (cases_eq x node)
    where
      go : (x ≡ node) ⊎ (x ≢ node) → mark_of marks x ≡ Done at
      go (inl e) = let a = ap (mark_of marks') e in let b = marks_node in absurd cc
      go (inr ne) = sym (marks_same x ne) ∙ m

  keep : (g : Group) (end : ℕ) → g.start < length stack → g.edges ≤ length pending → IsAccounted marks pending (Some node) g end → IsAccounted marks' pending' None g end
  keep g end low below (is_done at m) = is_done at (still_done end at m)
  keep g end low below (is_open at m a b) = is_open at (still_open end at m) a b
  keep g end low below (is_pending j a b e) = is_pending j a (omega (arith, pending_length)) (pending_same j b ∙ e)
  keep g end low below (is_due e) =
      let same : node ≡ end = cc in
      is_open (length stack) (subst (λ x. mark_of marks' x ≡ Open (length stack)) same marks_node) (omega arith) (λ _. low)

  -- the node's own group
  own_group : IsGroup edges None marks' stack' pending' group (length stack') (length pending')
  own_group = record {
    some = omega (arith, stack_length, start_is);
    within = omega (arith, pending_length, edges_is);
    strong = λ yes. absurd cc;
    single = λ no. omega (arith, stack_length, start_is);
    sources = λ j low high.
        let k : length pending + (j - length pending) ≡ j = omega (arith, edges_is) in
        let inside : j - length pending < length (get_or edges node []) = omega (arith, edges_is, pending_length) in
        let ends : get_or (get_or edges node []) (j - length pending) 0 ≡ get_or pending' j 0 = sym (pending_row (j - length pending)) ∙ ap (λ i. get_or pending' i 0) k in (
          length stack,
          omega (arith, start_is),
          omega (arith, stack_length),
          subst (λ x. IsEdge edges x (get_or pending' j 0)) (sym stack_top)
              (j - length pending, inside, get_or_default (get_or edges node []) (j - length pending) (get_or pending' j 0) 0 inside ∙ ends),
        );
    kept = λ a low high end edge.
        let top : a ≡ length stack = omega (arith, start_is, stack_length) in
        let row : IsEdge edges node end = subst (λ x. IsEdge edges x end) (ap (λ i. get_or stack' i 0) top ∙ stack_top) edge in
        is_pending (length pending + row.0) (omega (arith, edges_is)) (omega (arith, pending_length, row.1))
        (pending_row row.0 ∙ get_or_default (get_or edges node []) row.0 0 end row.1 ∙ row.2);
  }

  pub opens : IsUnderWay edges None marks' stack' pending' path' nodes cyclic
  opens = record {
    marked = ap length marks_is ∙ length-set marks node (Open (length stack)) ∙ is.marked;
    told = is.told;
    stacked = λ at h. stacked at (omega (arith, stack_length)) (cases_lt at (length stack));
    stacked_at = λ x at m. stacked_at x at m (cases_eq x node);
    listed = λ at h. ((is.listed at h).0, still_done (get_or nodes at 0) at (is.listed at h).1);
    listed_at = λ x at m. is.listed_at x at (was_done x at m);
    grouped = subst (λ n. IsPath edges None marks' stack' pending' path' n (length stack') (length pending')) (sym path_length)
        (subst (λ g. IsGroup edges None marks' stack' pending' g (length stack') (length pending') × IsPath edges None marks' stack' pending' path' (length path) g.start g.edges) (sym path_top) (
          own_group,
          subst (λ n. IsPath edges None marks' stack' pending' path' (length path) n group.edges) (sym start_is)
              (subst (λ m. IsPath edges None marks' stack' pending' path' (length path) (length stack) m) (sym edges_is)
              (same_path edges (Some node) None marks marks' stack stack' pending pending' path path' (length path) (length stack) (length pending) path_same stack_same pending_same keep is.grouped)),
        ));
    counted = omega (arith, is.counted, stack_length, ap new_count marks_is, count_opened marks node (length stack) (omega (arith, is.marked)) fresh);
    forward = λ a b below h. forward a b below (omega (arith, stack_length)) (cases_lt b (length stack));
    closed = λ start at end m edge.
        let old = is.closed start at end (was_done start at m) edge in
        (old.0, still_done end old.0 old.1, old.2);
    cycles = λ x at m. is.cycles x at (was_done x at m);
  }
    where
      stacked : (at : ℕ) → at < suc (length stack) → (at < length stack) ⊎ (length stack ≤ at) → (get_or stack' at 0 < length edges) × (mark_of marks' (get_or stack' at 0) ≡ Open at)
      stacked at h (inl low) = subst (λ x. (x < length edges) × (mark_of marks' x ≡ Open at)) (sym (stack_same at low)) ((is.stacked at low).0, still_open (get_or stack at 0) at (is.stacked at low).1)
      stacked at h (inr high) =
          let top : length stack ≡ at = omega arith in
          subst (λ i. (get_or stack' i 0 < length edges) × (mark_of marks' (get_or stack' i 0) ≡ Open i)) top
          (subst (λ x. (x < length edges) × (mark_of marks' x ≡ Open (length stack))) (sym stack_top) (within, marks_node))

      stacked_at : (x at : ℕ) → mark_of marks' x ≡ Open at → (x ≡ node) ⊎ (x ≢ node) → (at < length stack') × (get_or stack' at 0 ≡ x)
      stacked_at x at m (inl e) =
          let top : length stack ≡ at = let a = ap (mark_of marks') e in let b = marks_node in cc in
          (omega (arith, stack_length), ap (λ i. get_or stack' i 0) (sym top) ∙ stack_top ∙ sym e)
      stacked_at x at m (inr ne) =
          let old = is.stacked_at x at (sym (marks_same x ne) ∙ m) in
          (omega (arith, stack_length, old.0), stack_same at old.0 ∙ old.1)

      forward : (a b : ℕ) → a < b → b < suc (length stack) → (b < length stack) ⊎ (length stack ≤ b) → Leads edges (get_or stack' a 0) (get_or stack' b 0)
      forward a b below h (inl low) =
          let a_low : a < length stack = omega arith in
          subst (λ x. Leads edges x (get_or stack' b 0)) (sym (stack_same a a_low)) (subst (λ y. Leads edges (get_or stack a 0) y) (sym (stack_same b low)) (is.forward a b below low))
      forward a b below h (inr high) =
          let top : length stack ≡ b = omega arith in
          let a_low : a < length stack = omega arith in
          subst (λ x. Leads edges x (get_or stack' b 0)) (sym (stack_same a a_low)) (subst (λ i. Leads edges (get_or stack a 0) (get_or stack' i 0)) top (subst (λ y. Leads edges (get_or stack a 0) y) (sym stack_top) (lead a a_low)))
