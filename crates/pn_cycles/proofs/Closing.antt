-- The last group is done.
use Rattle.std.proofs.Common.{◌≡◌, ℕ, suc, ◌+◌, ◌-◌, ◌<◌, ◌≤◌, List, [], ◌∷◌, ◌++◌, length, get_or, take, drop, None, Bool, true, false, ◌⊎◌, inl, inr, refl, sym, ap, ◌∙◌, subst, arith}
use Rattle.std.proofs.lemmas.List.{length-append, length-drop, length-take-le, length_push, get_or-take, get_or-drop, get_or_append_left, get_or-append-add, get_or_push, take_all}
use Rattle.std.proofs.lemmas.Bool.{cases_lt}
use Rattle.pn_cycles.specs.declared.search.Mark.{Mark}
use Rattle.pn_cycles.specs.declared.search.Mark.TheVariants.{New, Open, Done}
use Rattle.pn_cycles.specs.declared.search.Group.{Group}
use Rattle.pn_cycles.specs.Graphs.{IsEdge, Leads, by_edge, by_path}
use Rattle.pn_cycles.specs.Searches.{mark_of, group_at, IsAccounted, is_done, is_open, is_pending, is_due, IsGroup, IsPath, IsUnderWay, IsFinish}
use Rattle.pn_cycles.proofs.Paths.{same_path}
use Rattle.pn_cycles.proofs.Working.{count_same}

-- the last group of a path
module _ (path front : List Group) (group : Group) (path_is : path ≡ front ++ group ∷ []) where
  pub last_length : length path ≡ suc (length front)
  last_length = omega (arith, ap length path_is, length_push front group)

  pub last_top : group_at path (length front) ≡ group
  last_top = ap (λ gs. group_at gs (length front)) path_is ∙ get_or_push front group (record { start = 0; edges = 0; cyclic = false }) (length front) refl

  pub last_same : (i : ℕ) → i < length front → group_at path i ≡ group_at front i
  last_same i h = ap (λ gs. group_at gs i) path_is ∙ get_or_append_left front (group ∷ []) (record { start = 0; edges = 0; cyclic = false }) i h

-- what nodes that are done lead to is done
pub done_leads : {edges : List (List ℕ)} {x y : ℕ} (marks : List Mark) (closed : (start at end : ℕ) → mark_of marks start ≡ Done at → IsEdge edges start end → (place : ℕ) × (mark_of marks end ≡ Done place)) (at : ℕ) → Leads edges x y → mark_of marks x ≡ Done at → (place : ℕ) × (mark_of marks y ≡ Done place)
done_leads marks closed at (by_edge e) m = closed _ at _ m e
done_leads marks closed at (by_path e w) m =
    let next = closed _ at _ m e in
    done_leads marks closed next.0 w next.1

module _ (edges : List (List ℕ)) (marks marks' : List Mark) (stack stack' pending : List ℕ) (path front : List Group) (group : Group) (nodes nodes' : List ℕ) (cyclic cyclic' : List Bool) (is : IsUnderWay edges None marks stack pending path nodes cyclic) (path_is : path ≡ front ++ group ∷ []) (edges_is : group.edges ≡ length pending) where
  top : IsGroup edges None marks stack pending group (length stack) (length pending) × IsPath edges None marks stack pending path (length front) group.start group.edges
  top = subst (λ g. IsGroup edges None marks stack pending g (length stack) (length pending) × IsPath edges None marks stack pending path (length front) g.start g.edges) (last_top path front group path_is)
      (subst (λ n. IsPath edges None marks stack pending path n (length stack) (length pending)) (last_length path front group path_is) is.grouped)

  pub close_start : group.start ≤ length stack
  close_start = omega (arith, top.0.some)

  module _ (finish : IsFinish stack group (length stack) marks nodes cyclic marks' nodes' cyclic') (stack_is : stack' ≡ take group.start stack) where
    stack_length : length stack' ≡ group.start
    stack_length = ap length stack_is ∙ length-take-le group.start stack close_start

    stack_same : (a : ℕ) → a < group.start → get_or stack' a 0 ≡ get_or stack a 0
    stack_same a h = ap (λ xs. get_or xs a 0) stack_is ∙ get_or-take group.start stack a 0 h

    ended : nodes' ≡ nodes ++ drop group.start stack
    ended = finish.listed ∙ ap (λ xs. nodes ++ xs) (take_all (length stack - group.start) (drop group.start stack) (omega (arith, length-drop group.start stack)))

    nodes_length : length nodes' ≡ length nodes + (length stack - group.start)
    nodes_length = omega (arith, ap length ended, length-append nodes (drop group.start stack), length-drop group.start stack)

    nodes_same : (i : ℕ) → i < length nodes → get_or nodes' i 0 ≡ get_or nodes i 0
    nodes_same i h = ap (λ xs. get_or xs i 0) ended ∙ get_or_append_left nodes (drop group.start stack) 0 i h

    nodes_more : (k : ℕ) → get_or nodes' (length nodes + k) 0 ≡ get_or stack (group.start + k) 0
    nodes_more k = ap (λ xs. get_or xs (length nodes + k) 0) ended ∙ get_or-append-add nodes (drop group.start stack) k 0 ∙ get_or-drop group.start stack k 0

    -- the nodes of the group, and the others
    none_done : (x at : ℕ) → mark_of marks x ≡ Done at → (i : ℕ) → group.start ≤ i → i < length stack → get_or stack i 0 ≡ x → ⊥
    none_done x at m i low high e = let a = (is.stacked i high).1 in let b = ap (mark_of marks) e in cc

    none_open : (x at : ℕ) → mark_of marks x ≡ Open at → at < group.start → (i : ℕ) → group.start ≤ i → i < length stack → get_or stack i 0 ≡ x → ⊥
    none_open x at m below i low high e =
        let a = (is.stacked i high).1 in
        let b = ap (mark_of marks) e in
        let same : at ≡ i = cc in
        omega arith

    none_new : (x : ℕ) → mark_of marks x ≡ New → (i : ℕ) → group.start ≤ i → i < length stack → get_or stack i 0 ≡ x → ⊥
    none_new x m i low high e = let a = (is.stacked i high).1 in let b = ap (mark_of marks) e in cc

    still_done : (x at : ℕ) → mark_of marks x ≡ Done at → mark_of marks' x ≡ Done at
    still_done x at m = finish.others_marked x (none_done x at m) ∙ m

    still_open : (x at : ℕ) → mark_of marks x ≡ Open at → at < group.start → mark_of marks' x ≡ Open at
    still_open x at m below = finish.others_marked x (none_open x at m below) ∙ m

    now_done : (x at : ℕ) → mark_of marks x ≡ Open at → group.start ≤ at → mark_of marks' x ≡ Done (length nodes + (at - group.start))
    now_done x at m low =
        let old = is.stacked_at x at m in
        subst (λ y. mark_of marks' y ≡ Done (length nodes + (at - group.start))) old.1 (finish.marked at low old.0)

    -- where a mark comes from
    data Origin (x : ℕ) : Type 0 where
      outside : mark_of marks' x ≡ mark_of marks x → ((at : ℕ) → mark_of marks x ≡ Open at → at < group.start) → Origin x
      inside : (at : ℕ) → group.start ≤ at → at < length stack → get_or stack at 0 ≡ x → mark_of marks x ≡ Open at → mark_of marks' x ≡ Done (length nodes + (at - group.start)) → Origin x

    origin : (x : ℕ) → Origin x
    origin x = go (mark_of marks x) refl
      where
        opened : (at : ℕ) → mark_of marks x ≡ Open at → (at < group.start) ⊎ (group.start ≤ at) → Origin x
        opened at m (inl below) = outside (still_open x at m below ∙ sym m) (λ i n. let same : at ≡ i = cc in omega arith)
        opened at m (inr low) = let old = is.stacked_at x at m in inside at low old.0 old.1 m (now_done x at m low)

        go : (m : Mark) → mark_of marks x ≡ m → Origin x
        go New m = outside (finish.others_marked x (none_new x m)) (λ i n. absurd cc)
        go (Open at) m = opened at m (cases_lt at group.start)
        go (Done at) m = outside (still_done x at m ∙ sym m) (λ i n. absurd cc)

    -- no node is new again
    pub close_visits : (x : ℕ) → mark_of marks' x ≡ New → mark_of marks x ≡ New
    close_visits x m = go (origin x)
      where
        go : Origin x → mark_of marks x ≡ New
        go (outside same below) = sym same ∙ m
        go (inside at low high e was now) = absurd cc

    keep : (g : Group) (end : ℕ) → IsAccounted marks pending None g end → IsAccounted marks' pending None g end
    keep g end (is_done at m) = is_done at (still_done end at m)
    keep g end (is_open at m a b) = go (cases_lt at group.start)
      where
        go : (at < group.start) ⊎ (group.start ≤ at) → IsAccounted marks' pending None g end
        go (inl below) = is_open at (still_open end at m below) a b
        go (inr low) = is_done (length nodes + (at - group.start)) (now_done end at m low)
    keep g end (is_pending j a b e) = is_pending j a b e
    keep g end (is_due e) = absurd cc

    -- where an edge out of the group leads
    out : (p end : ℕ) → group.start ≤ p → p < length stack → IsEdge edges (get_or stack p 0) end → ((place : ℕ) × (mark_of marks end ≡ Done place)) ⊎ ((q : ℕ) × (group.start ≤ q) × (group.cyclic ≡ true) × (mark_of marks end ≡ Open q))
    out p end low high edge = go (top.0.kept p low high end edge)
      where
        cyclic_is : (yes : Bool) → group.cyclic ≡ yes → (q : ℕ) → q < length stack → (group.cyclic ≡ false → group.start < q) → group.cyclic ≡ true
        cyclic_is true e q h above = e
        cyclic_is false e q h above = absurd (omega (arith, top.0.single e, above e))

        go : IsAccounted marks pending None group end → ((place : ℕ) × (mark_of marks end ≡ Done place)) ⊎ ((q : ℕ) × (group.start ≤ q) × (group.cyclic ≡ true) × (mark_of marks end ≡ Open q))
        go (is_done at m) = inl (at, m)
        go (is_open q m a b) = inr (q, a, cyclic_is group.cyclic refl q (is.stacked_at end q m).0 b, m)
        go (is_pending j a b e) = absurd (omega (arith, edges_is))
        go (is_due e) = absurd cc

    -- a node of a group that does not lead to itself does not
    no_cycle : (p : ℕ) → group.start ≤ p → p < length stack → group.cyclic ≡ false → Leads edges (get_or stack p 0) (get_or stack p 0) → ⊥
    no_cycle p low high not_cyclic way = go _ way refl
      where
        closed : (start at end : ℕ) → mark_of marks start ≡ Done at → IsEdge edges start end → (place : ℕ) × (mark_of marks end ≡ Done place)
        closed start at end m e = let old = is.closed start at end m e in (old.0, old.1)

        not_done : (at : ℕ) → mark_of marks (get_or stack p 0) ≡ Done at → ⊥
        not_done at m = let a = (is.stacked p high).1 in cc

        first : (via : ℕ) → IsEdge edges (get_or stack p 0) via → (place : ℕ) × (mark_of marks via ≡ Done place)
        first via e = elim (out p via low high e) [ inl d ↦ d | inr o ↦ absurd (let a = o.2 in cc) ]

        go : (end : ℕ) → Leads edges (get_or stack p 0) end → end ≡ get_or stack p 0 → ⊥
        go end (by_edge e) same = let d = first end e in not_done d.0 (subst (λ x. mark_of marks x ≡ Done d.0) same d.1)
        go end (by_path {via = via} e w) same =
            let d = first via e in
            let l = done_leads marks closed d.0 w d.1 in
            not_done l.0 (subst (λ x. mark_of marks x ≡ Done l.0) same l.1)

    pub closes : IsUnderWay edges None marks' stack' pending front nodes' cyclic'
    closes = record {
      marked = finish.marks_sized ∙ is.marked;
      told = finish.cyclic_sized ∙ is.told;
      stacked = λ at h.
          let below : at < group.start = omega (arith, stack_length) in
          let within : at < length stack = omega (arith, close_start) in
          let old = is.stacked at within in
          subst (λ x. (x < length edges) × (mark_of marks' x ≡ Open at)) (sym (stack_same at below)) (old.0, still_open (get_or stack at 0) at old.1 below);
      stacked_at = λ x at m. stacked_at x at m (origin x);
      listed = λ at h. listed at h (cases_lt at (length nodes));
      listed_at = λ x at m. listed_at x at m (origin x);
      grouped = subst (λ n. IsPath edges None marks' stack' pending front (length front) n (length pending)) (sym stack_length)
          (subst (λ n. IsPath edges None marks' stack' pending front (length front) group.start n) edges_is
          (same_path edges None None marks marks' stack stack' pending pending path front (length front) group.start group.edges (λ i h. sym (last_same path front group path_is i h)) stack_same (λ j h. refl) (λ g end g_low g_below. keep g end) top.1));
      counted = omega (arith, is.counted, stack_length, nodes_length, close_start, count_same marks marks' finish.marks_sized (λ x h. close_visits x) (λ x h m. finish.others_marked x (none_new x m) ∙ m));
      forward = λ a b below h.
          let b_low : b < group.start = omega (arith, stack_length) in
          let a_low : a < group.start = omega arith in
          let within : b < length stack = omega (arith, close_start) in
          subst (λ x. Leads edges x (get_or stack' b 0)) (sym (stack_same a a_low)) (subst (λ y. Leads edges (get_or stack a 0) y) (sym (stack_same b b_low)) (is.forward a b below within));
      closed = λ start at end m edge. closed start at end m edge (origin start);
      cycles = λ x at m. cycles x at m (origin x);
    }
      where
        stacked_at : (x at : ℕ) → mark_of marks' x ≡ Open at → Origin x → (at < length stack') × (get_or stack' at 0 ≡ x)
        stacked_at x at m (outside same below) =
            let was : mark_of marks x ≡ Open at = sym same ∙ m in
            let old = is.stacked_at x at was in
            let low = below at was in
            (omega (arith, stack_length, low), stack_same at low ∙ old.1)
        stacked_at x at m (inside p low high e was now) = absurd cc

        listed : (at : ℕ) → at < length nodes' → (at < length nodes) ⊎ (length nodes ≤ at) → (get_or nodes' at 0 < length edges) × (mark_of marks' (get_or nodes' at 0) ≡ Done at)
        listed at h (inl low) =
            let old = is.listed at low in
            subst (λ x. (x < length edges) × (mark_of marks' x ≡ Done at)) (sym (nodes_same at low)) (old.0, still_done (get_or nodes at 0) at old.1)
        listed at h (inr high) =
            let p : ℕ = group.start + (at - length nodes) in
            let in' : p < length stack = omega (arith, nodes_length) in
            let back : length nodes + (at - length nodes) ≡ at = omega arith in
            let read : get_or nodes' at 0 ≡ get_or stack p 0 = ap (λ i. get_or nodes' i 0) (sym back) ∙ nodes_more (at - length nodes) in
            let place : length nodes + (p - group.start) ≡ at = omega arith in
            subst (λ x. (x < length edges) × (mark_of marks' x ≡ Done at)) (sym read) ((is.stacked p in').0, finish.marked p (omega arith) in' ∙ ap Done place)

        listed_at : (x at : ℕ) → mark_of marks' x ≡ Done at → Origin x → (at < length nodes') × (get_or nodes' at 0 ≡ x)
        listed_at x at m (outside same below) =
            let old = is.listed_at x at (sym same ∙ m) in
            (omega (arith, nodes_length, old.0), nodes_same at old.0 ∙ old.1)
        listed_at x at m (inside p low high e was now) =
            let place : at ≡ length nodes + (p - group.start) = cc in
            let back : group.start + (p - group.start) ≡ p = omega arith in
            (omega (arith, nodes_length), ap (λ i. get_or nodes' i 0) place ∙ nodes_more (p - group.start) ∙ ap (λ i. get_or stack i 0) back ∙ e)

        closed : (start at end : ℕ) → mark_of marks' start ≡ Done at → IsEdge edges start end → Origin start → (place : ℕ) × (mark_of marks' end ≡ Done place) × ((place < at) ⊎ Leads edges end start)
        closed start at end m edge (outside same below) =
            let old = is.closed start at end (sym same ∙ m) edge in
            (old.0, still_done end old.0 old.1, old.2)
        closed start at end m edge (inside p low high e was now) = go (out p end low high (subst (λ x. IsEdge edges x end) (sym e) edge))
          where
            place : at ≡ length nodes + (p - group.start)
            place = cc

            go : ((place : ℕ) × (mark_of marks end ≡ Done place)) ⊎ ((q : ℕ) × (group.start ≤ q) × (group.cyclic ≡ true) × (mark_of marks end ≡ Open q)) → (place : ℕ) × (mark_of marks' end ≡ Done place) × ((place < at) ⊎ Leads edges end start)
            go (inl d) = (d.0, still_done end d.0 d.1, inl (omega (arith, place, (is.listed_at end d.0 d.1).0)))
            go (inr o) =
                let old = is.stacked_at end o.0 o.3 in
                (length nodes + (o.0 - group.start), now_done end o.0 o.3 o.1, inr (subst (λ x. Leads edges x start) old.1 (subst (λ y. Leads edges (get_or stack o.0 0) y) e (top.0.strong o.2 o.0 p o.1 old.0 low high))))

        cycles : (x at : ℕ) → mark_of marks' x ≡ Done at → Origin x → (get_or cyclic' x false ≡ true → Leads edges x x) × (Leads edges x x → get_or cyclic' x false ≡ true)
        cycles x at m (outside same below) =
            let was : mark_of marks x ≡ Done at = sym same ∙ m in
            let told : get_or cyclic' x false ≡ get_or cyclic x false = finish.others_told x (none_done x at was) in
            let old = is.cycles x at was in
            (λ yes. old.0 (sym told ∙ yes), λ way. told ∙ old.1 way)
        cycles x at m (inside p low high e was now) = (λ yes. subst (λ y. Leads edges y y) e (top.0.strong (sym told ∙ yes) p p low high low high), λ way. told ∙ is_cyclic group.cyclic refl (subst (λ y. Leads edges y y) (sym e) way))
          where
            told : get_or cyclic' x false ≡ group.cyclic
            told = subst (λ y. get_or cyclic' y false ≡ group.cyclic) e (finish.told p low high)

            is_cyclic : (b : Bool) → group.cyclic ≡ b → Leads edges (get_or stack p 0) (get_or stack p 0) → group.cyclic ≡ true
            is_cyclic true c way = c
            is_cyclic false c way = absurd (no_cycle p low high c way)
