-- The groups from an open node on become one.
use Rattle.std.proofs.Common.{◌≡◌, ℕ, zero, suc, ◌+◌, ◌<◌, ◌≤◌, ◌≢◌, List, length, get_or, set, take, Option, Some, None, Bool, true, false, ◌⊎◌, inl, inr, refl, sym, ap, ◌∙◌, subst, arith}
use Rattle.std.proofs.lemmas.List.{length-set, length-take-le, get_or-take, get_or-set_same, get_or-set_other, get_or_read}
use Rattle.std.proofs.lemmas.Bool.{cases_eq, cases_lt}
use Rattle.pn_cycles.specs.declared.search.Mark.{Mark}
use Rattle.pn_cycles.specs.declared.search.Mark.TheVariants.{Open}
use Rattle.pn_cycles.specs.declared.search.Group.{Group}
use Rattle.pn_cycles.specs.Graphs.{IsEdge, Leads}
use Rattle.pn_cycles.specs.Searches.{mark_of, group_at, IsAccounted, is_done, is_open, is_pending, is_due, IsGroup, IsPath, IsUnderWay, LeadTo}
use Rattle.pn_cycles.proofs.Ways.{leads_on}
use Rattle.pn_cycles.proofs.Paths.{same_path}

-- the group, as one that leads to itself
abbrev pub joined_group : Group → Group
joined_group group = record { start = group.start; edges = group.edges; cyclic = true }

-- what the groups from one on are together
record Together (edges : List (List ℕ)) (due : Option ℕ) (marks : List Mark) (stack pending : List ℕ) (path : List Group) (group : Group) (at place n m : ℕ) : Type 0 where
  nodes_end : ℕ
  edges_end : ℕ
  nodes_within : nodes_end ≤ n
  edges_within : edges_end ≤ m
  inside : place < nodes_end
  is_group : IsGroup edges due marks stack pending group nodes_end edges_end
  before : IsPath edges due marks stack pending path at group.start group.edges
  sources : (j : ℕ) → group.edges ≤ j → j < m → (a : ℕ) × (group.start ≤ a) × (a < n) × IsEdge edges (get_or stack a 0) (get_or pending j 0)
  kept : (a : ℕ) → group.start ≤ a → a < n → (end : ℕ) → IsEdge edges (get_or stack a 0) end → IsAccounted marks pending None (joined_group group) end

module _ (edges : List (List ℕ)) (node place : ℕ) (marks : List Mark) (stack pending : List ℕ) (path : List Group) (at_place : mark_of marks node ≡ Open place) where
  keep_joined : (group h : Group) (end : ℕ) → group.start ≤ place → group.start ≤ h.start → group.edges ≤ h.edges → IsAccounted marks pending (Some node) h end → IsAccounted marks pending None (joined_group group) end
  keep_joined group h end low starts ends (is_done at m) = is_done at m
  keep_joined group h end low starts ends (is_open at m a b) = is_open at m (omega arith) (λ no. absurd cc)
  keep_joined group h end low starts ends (is_pending j a b e) = is_pending j (omega arith) b e
  keep_joined group h end low starts ends (is_due e) =
      let same : node ≡ end = cc in
      is_open place (subst (λ x. mark_of marks x ≡ Open place) same at_place) low (λ no. absurd cc)

  keep_before : (g : Group) (end : ℕ) → g.start < place → IsAccounted marks pending (Some node) g end → IsAccounted marks pending None g end
  keep_before g end low (is_done at m) = is_done at m
  keep_before g end low (is_open at m a b) = is_open at m a b
  keep_before g end low (is_pending j a b e) = is_pending j a b e
  keep_before g end low (is_due e) =
      let same : node ≡ end = cc in
      is_open place (subst (λ x. mark_of marks x ≡ Open place) same at_place) (omega arith) (λ no. low)

  together : (at count n m : ℕ) → at < count → (group_at path at).start ≤ place → ((i : ℕ) → at < i → i < count → place < (group_at path i).start) → place < n → IsPath edges (Some node) marks stack pending path count n m → Together edges (Some node) marks stack pending path (group_at path at) at place n m
  together at zero n m in' low above inside is = absurd (omega arith)
  together at (suc count) n m in' low above inside is = go (cases_eq at count) (λ below. together at count (group_at path count).start (group_at path count).edges below low (λ i a b. above i a (omega arith)) (above count below (omega arith)) is.1)
    where
      go : (at ≡ count) ⊎ (at ≢ count) → (at < count → Together edges (Some node) marks stack pending path (group_at path at) at place (group_at path count).start (group_at path count).edges) → Together edges (Some node) marks stack pending path (group_at path at) at place n m
      go (inl e) rest =
          let here = subst (λ i. IsGroup edges (Some node) marks stack pending (group_at path i) n m × IsPath edges (Some node) marks stack pending path i (group_at path i).start (group_at path i).edges) (sym e) is in
          record {
            nodes_end = n;
            edges_end = m;
            nodes_within = omega arith;
            edges_within = omega arith;
            inside = inside;
            is_group = here.0;
            before = here.1;
            sources = here.0.sources;
            kept = λ a a_low a_high end edge. keep_joined (group_at path at) (group_at path at) end low (omega arith) (omega arith) (here.0.kept a a_low a_high end edge);
          }
      go (inr ne) rest =
          let r = rest (omega arith) in
          let top = is.0 in
          record {
            nodes_end = r.nodes_end;
            edges_end = r.edges_end;
            nodes_within = omega (arith, r.nodes_within, top.some);
            edges_within = omega (arith, r.edges_within, top.within);
            inside = r.inside;
            is_group = r.is_group;
            before = r.before;
            sources = λ j j_low j_high. source r top j j_low j_high (cases_lt j (group_at path count).edges);
            kept = λ a a_low a_high end edge. keep r top a a_low a_high end edge (cases_lt a (group_at path count).start);
          }
        where
          source : Together edges (Some node) marks stack pending path (group_at path at) at place (group_at path count).start (group_at path count).edges → IsGroup edges (Some node) marks stack pending (group_at path count) n m → (j : ℕ) → (group_at path at).edges ≤ j → j < m → (j < (group_at path count).edges) ⊎ ((group_at path count).edges ≤ j) → (a : ℕ) × ((group_at path at).start ≤ a) × (a < n) × IsEdge edges (get_or stack a 0) (get_or pending j 0)
          source r top j j_low j_high (inl below) =
              let s = r.sources j j_low below in
              (s.0, s.1, omega (arith, s.2, top.some), s.3)
          source r top j j_low j_high (inr above) =
              let s = top.sources j above j_high in
              (s.0, omega (arith, s.1, r.is_group.some, r.nodes_within), s.2, s.3)

          keep : Together edges (Some node) marks stack pending path (group_at path at) at place (group_at path count).start (group_at path count).edges → IsGroup edges (Some node) marks stack pending (group_at path count) n m → (a : ℕ) → (group_at path at).start ≤ a → a < n → (end : ℕ) → IsEdge edges (get_or stack a 0) end → (a < (group_at path count).start) ⊎ ((group_at path count).start ≤ a) → IsAccounted marks pending None (joined_group (group_at path at)) end
          keep r top a a_low a_high end edge (inl below) = r.kept a a_low below end edge
          keep r top a a_low a_high end edge (inr above) = keep_joined (group_at path at) (group_at path count) end low (omega (arith, r.is_group.some, r.nodes_within)) (omega (arith, r.is_group.within, r.edges_within)) (top.kept a above a_high end edge)

  pub joins : (path' : List Group) (nodes : List ℕ) (cyclic : List Bool) (at : ℕ) → IsUnderWay edges (Some node) marks stack pending path nodes cyclic → LeadTo edges stack node → at < length path → (group_at path at).start ≤ place → ((i : ℕ) → at < i → i < length path → place < (group_at path i).start) → length path' ≡ suc at → group_at path' at ≡ joined_group (group_at path at) → ((i : ℕ) → i < at → group_at path' i ≡ group_at path i) → IsUnderWay edges None marks stack pending path' nodes cyclic
  joins path' nodes cyclic at is lead in' low above size top below = record {
    marked = is.marked;
    told = is.told;
    stacked = is.stacked;
    stacked_at = is.stacked_at;
    listed = is.listed;
    listed_at = is.listed_at;
    grouped = subst (λ n. IsPath edges None marks stack pending path' n (length stack) (length pending)) (sym size)
        (subst (λ g. IsGroup edges None marks stack pending g (length stack) (length pending) × IsPath edges None marks stack pending path' at g.start g.edges) (sym top)
        (one_group, same_path edges (Some node) None marks marks stack stack pending pending path path' at group.start group.edges below (λ a h. refl) (λ j h. refl) (λ g end g_low g_below. keep_before g end (omega (arith, g_low, low))) all.before));
    counted = is.counted;
    forward = is.forward;
    closed = is.closed;
    cycles = is.cycles;
  }
    where
      group : Group
      group = group_at path at

      at_node : (place < length stack) × (get_or stack place 0 ≡ node)
      at_node = is.stacked_at node place at_place

      all : Together edges (Some node) marks stack pending path (group_at path at) at place (length stack) (length pending)
      all = together at (length path) (length stack) (length pending) in' low above at_node.0 is.grouped

      to_place : (a : ℕ) → a < length stack → Leads edges (get_or stack a 0) (get_or stack place 0)
      to_place a h = subst (λ x. Leads edges (get_or stack a 0) x) (sym at_node.1) (lead a h)

      first_group : (yes : Bool) → group.cyclic ≡ yes → (b : ℕ) → group.start ≤ b → b < place → Leads edges (get_or stack place 0) (get_or stack b 0)
      first_group true e b b_low b_high = all.is_group.strong e place b low all.inside b_low (omega (arith, all.inside))
      first_group false e b b_low b_high = absurd (omega (arith, all.is_group.single e, all.inside))

      from_place : (a b : ℕ) → a < length stack → group.start ≤ b → b < length stack → (b < place) ⊎ (place ≤ b) → (b ≡ place) ⊎ (b ≢ place) → Leads edges (get_or stack a 0) (get_or stack b 0)
      from_place a b h b_low b_high order (inl e) = subst (λ i. Leads edges (get_or stack a 0) (get_or stack i 0)) (sym e) (to_place a h)
      from_place a b h b_low b_high (inl under) (inr ne) = leads_on (to_place a h) (first_group group.cyclic refl b b_low under)
      from_place a b h b_low b_high (inr over) (inr ne) = leads_on (to_place a h) (is.forward place b (omega arith) b_high)

      one_group : IsGroup edges None marks stack pending (joined_group group) (length stack) (length pending)
      one_group = record {
        some = omega (arith, all.is_group.some, all.nodes_within);
        within = omega (arith, all.is_group.within, all.edges_within);
        strong = λ yes a b a_low a_high b_low b_high. from_place a b a_high b_low b_high (cases_lt b place) (cases_eq b place);
        single = λ no. absurd cc;
        sources = all.sources;
        kept = all.kept;
      }

-- the groups up to one, which then leads to itself
module _ (path shorter : List Group) (at : ℕ) (read : Group) (within : at < length path) (cut : shorter ≡ take (at + 1) path) (reads : read ≡ get_or shorter at read) where
  cut_length : length shorter ≡ suc at
  cut_length = omega (arith, ap length cut, length-take-le (at + 1) path (omega arith))

  cut_same : (i : ℕ) → i < suc at → group_at shorter i ≡ group_at path i
  cut_same i h = ap (λ gs. group_at gs i) cut ∙ get_or-take (at + 1) path i (record { start = 0; edges = 0; cyclic = false }) (omega arith)

  pub cut_size : length (set shorter at (joined_group read)) ≡ suc at
  cut_size = length-set shorter at (joined_group read) ∙ cut_length

  pub cut_top : group_at (set shorter at (joined_group read)) at ≡ joined_group (group_at path at)
  cut_top =
      let inside : at < length shorter = omega (arith, cut_length) in
      get_or-set_same shorter at (joined_group read) (record { start = 0; edges = 0; cyclic = false }) inside ∙ ap joined_group (get_or_read shorter at read inside reads (record { start = 0; edges = 0; cyclic = false }) ∙ cut_same at (omega arith))

  pub cut_below : (i : ℕ) → i < at → group_at (set shorter at (joined_group read)) i ≡ group_at path i
  cut_below i h = get_or-set_other shorter at i (joined_group read) (record { start = 0; edges = 0; cyclic = false }) (omega arith) ∙ cut_same i (omega arith)
