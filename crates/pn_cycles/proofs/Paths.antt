-- A path of groups where marks, stacks and edges change beyond it.
use Rattle.std.proofs.Common.{◌≡◌, ℕ, zero, suc, ◌<◌, ◌≤◌, List, get_or, Option, sym, subst, arith}
use Rattle.pn_cycles.specs.declared.search.Mark.{Mark}
use Rattle.pn_cycles.specs.declared.search.Group.{Group}
use Rattle.pn_cycles.specs.Graphs.{IsEdge, Leads}
use Rattle.pn_cycles.specs.Searches.{group_at, IsAccounted, IsGroup, IsPath}

module _ (edges : List (List ℕ)) (due due' : Option ℕ) (marks marks' : List Mark) (stack stack' pending pending' : List ℕ) where
  -- a group stays one where its nodes stay where they are, and its edges, maybe without the last ones
  pub same_group : (group : Group) (n m m' : ℕ) → ((a : ℕ) → a < n → get_or stack' a 0 ≡ get_or stack a 0) → ((j : ℕ) → j < m' → get_or pending' j 0 ≡ get_or pending j 0) → group.edges ≤ m' → m' ≤ m → ((end : ℕ) → IsAccounted marks pending due group end → IsAccounted marks' pending' due' group end) → IsGroup edges due marks stack pending group n m → IsGroup edges due' marks' stack' pending' group n m'
  same_group group n m m' nodes ends low high keep is = record {
    some = is.some;
    within = low;
    strong = λ cyclic a b a_low a_high b_low b_high. subst (λ x. Leads edges x (get_or stack' b 0)) (sym (nodes a a_high)) (subst (λ y. Leads edges (get_or stack a 0) y) (sym (nodes b b_high)) (is.strong cyclic a b a_low a_high b_low b_high));
    single = is.single;
    sources = λ j j_low j_high.
        let source = is.sources j j_low (omega arith) in
        (source.0, source.1, source.2, subst (λ x. IsEdge edges x (get_or pending' j 0)) (sym (nodes source.0 source.2)) (subst (λ y. IsEdge edges (get_or stack source.0 0) y) (sym (ends j j_high)) source.3));
    kept = λ a a_low a_high end edge. keep end (is.kept a a_low a_high end (subst (λ x. IsEdge edges x end) (nodes a a_high) edge));
  }

  pub same_path : (path path' : List Group) (at n m : ℕ) → ((i : ℕ) → i < at → group_at path' i ≡ group_at path i) → ((a : ℕ) → a < n → get_or stack' a 0 ≡ get_or stack a 0) → ((j : ℕ) → j < m → get_or pending' j 0 ≡ get_or pending j 0) → ((group : Group) (end : ℕ) → group.start < n → group.edges ≤ m → IsAccounted marks pending due group end → IsAccounted marks' pending' due' group end) → IsPath edges due marks stack pending path at n m → IsPath edges due' marks' stack' pending' path' at n m
  same_path path path' zero n m groups nodes ends keep is = is
  same_path path path' (suc at) n m groups nodes ends keep is =
      let group = group_at path at in
      subst (λ g. IsGroup edges due' marks' stack' pending' g n m × IsPath edges due' marks' stack' pending' path' at g.start g.edges) (sym (groups at (omega arith))) (
        same_group group n m m nodes ends is.0.within (omega arith) (λ end. keep group end is.0.some is.0.within) is.0,
        same_path path path' at group.start group.edges (λ i h. groups i (omega arith)) (λ a h. nodes a (omega (arith, is.0.some))) (λ j h. ends j (omega (arith, is.0.within))) (λ g end low high. keep g end (omega (arith, low, is.0.some)) (omega (arith, high, is.0.within))) is.1,
      )

module _ (edges : List (List ℕ)) (due : Option ℕ) (marks : List Mark) (stack pending : List ℕ) (path : List Group) where
  -- where there are nodes, there is a group
  pub some_group : (at n m : ℕ) → 0 < n → IsPath edges due marks stack pending path at n m → 0 < at
  some_group zero n m some is = absurd (omega (arith, is.0))
  some_group (suc at) n m some is = omega arith

  -- where there is a group, there are nodes
  pub no_group : (at n m : ℕ) → at ≡ 0 → IsPath edges due marks stack pending path at n m → (n ≡ 0) × (m ≡ 0)
  no_group zero n m none is = is
  no_group (suc at) n m none is = absurd (omega arith)

  -- the first group begins at the bottom
  pub first_start : (at n m : ℕ) → 0 < at → IsPath edges due marks stack pending path at n m → (group_at path 0).start ≡ 0
  first_start zero n m some is = absurd (omega arith)
  first_start (suc zero) n m some is = is.1.0
  first_start (suc (suc at)) n m some is = first_start (suc at) (group_at path (suc at)).start (group_at path (suc at)).edges (omega arith) is.1
