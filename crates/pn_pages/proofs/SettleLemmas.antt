-- Where references lead, settled in an order in which each stands behind those that it leads to.
use Rattle.std.proofs.Common.{◌≡◌, ◌≢◌, ◌⊎◌, inl, inr, ℕ, ◌+◌, ◌<◌, ◌≤◌, Bool, true, false, cond, List, [], ◌∷◌, length, get_or, set, Option, Some, None, refl, sym, ap, ◌∙◌, subst, arith, slice_index_or}
use Rattle.std.specs.List.{Contains, slice_get}
use Rattle.std.specs.Option.{option_map, unwrap_or}
use Rattle.std.proofs.lemmas.Bool.{cases_lt}
use Rattle.std.proofs.lemmas.List.{get_or-set_other, get_or-set_same, length-map, length-set}
use Rattle.std.proofs.lemmas.List.Elements.{All-get_or}
use Rattle.std.proofs.lemmas.Option.{get_or_from_slice_get, slice_get-get_or, slice_get-map, slice_get_past, slice_get_within, unwrap_or-slice_get}
use Rattle.pn_cycles.specs.Graphs.{IsEdge, Leads}
use Rattle.pn_cycles.specs.Orders.{ListsEachOnce, StandBehindOffCycles, StandsBefore, TellsCycles}
use Rattle.pn_facts.proofs.Contained.{at_contains, contains_first}
use Rattle.pn_pages.specs.declared.follow.Goal.{Goal}
use Rattle.pn_pages.specs.declared.names.Node.{Node}
use Rattle.pn_pages.specs.declared.names.Node.TheVariants as nodes
use Rattle.pn_pages.specs.Following.{AreGoals, goal_at, goal_through, of_one_side, round, rows_of_targets, settled_goal, targets_row}

-- ---- what stands in a list at whose place something is stored

get_same : {X : Type 0} (xs : List X) (i : ℕ) (x : X) → i < length xs → slice_get (set xs i x) i ≡ Some x
get_same xs i x small = slice_get-get_or (set xs i x) i x (omega (arith, length-set xs i x, small)) ∙ ap Some (get_or-set_same xs i x x small)

get_other : {X : Type 0} (xs : List X) (i j : ℕ) (x : X) → j ≢ i → slice_get (set xs i x) j ≡ slice_get xs j
get_other xs i j x differ = elim (cases_lt j (length xs)) [
  | inl inside ↦ slice_get-get_or (set xs i x) j x (omega (arith, length-set xs i x, inside)) ∙ ap Some (get_or-set_other xs i j x x differ) ∙ sym (slice_get-get_or xs j x inside)
  | inr past ↦ slice_get_past (set xs i x) j (omega (arith, length-set xs i x, past)) ∙ sym (slice_get_past xs j past)
]

-- where the goal of the reference that is referred to stays, so does this
goal_kept : (n k : ℕ) (target : Option Node) (goals later : List Goal) → ((j : ℕ) → target ≡ Some (nodes.Reference j) → slice_get later j ≡ slice_get goals j) → goal_at n k target later ≡ goal_at n k target goals
goal_kept n k None goals later same = refl
goal_kept n k (Some (nodes.Place i)) goals later same = refl
goal_kept n k (Some (nodes.Transition i)) goals later same = refl
goal_kept n k (Some (nodes.Reference j)) goals later same = ap (goal_through (of_one_side n k j)) (same j refl)
goal_kept n k (Some nodes.Other) goals later same = refl

-- a reference to another leads to it
edge : (targets : List (Option Node)) (k j : ℕ) → slice_get targets k ≡ Some (Some (nodes.Reference j)) → IsEdge (rows_of_targets targets) k j
edge targets k j stands =
    let row : slice_index_or (rows_of_targets targets) k [] ≡ j ∷ [] = sym (unwrap_or-slice_get (rows_of_targets targets) k []) ∙ ap (λ o. unwrap_or o []) (slice_get-map targets_row targets k ∙ ap (option_map targets_row) stands) in
    subst (λ row. Contains row j) (sym row) (contains_first j [])

-- those up to this place of the order are settled
pub record Progress (n : ℕ) (targets : List (Option Node)) (on_cycle : List Bool) (order : List ℕ) (i : ℕ) (goals : List Goal) : Type 0 where
  pub size : length goals ≡ length targets
  pub right : (p : ℕ) (target : Option Node) → p < i → p < length order → slice_get targets (get_or order p 0) ≡ Some target
      → slice_get goals (get_or order p 0) ≡ Some (settled_goal n on_cycle (get_or order p 0) target goals)

module _ (n : ℕ) (targets : List (Option Node)) (on_cycle : List Bool) (order : List ℕ) (tells : TellsCycles (rows_of_targets targets) on_cycle)
    (each : ListsEachOnce (length (rows_of_targets targets)) order) (behind : StandBehindOffCycles (rows_of_targets targets) order) where
  off_cycle : (k : ℕ) → k < length (rows_of_targets targets) → slice_index_or on_cycle k false ≡ false → Leads (rows_of_targets targets) k k → ⊥
  off_cycle k small is leads = let bad : true ≡ false = sym ((tells k small).1 leads) ∙ is in cc

  -- a later store leaves what is settled
  settled_kept : (i p : ℕ) (target : Option Node) (goals : List Goal) (g : Goal) → i < length order → p ≤ i → p < length order → slice_get targets (get_or order p 0) ≡ Some target
      → (b : Bool) → slice_index_or on_cycle (get_or order p 0) false ≡ b
      → cond b round (goal_at n (get_or order p 0) target (set goals (get_or order i 0) g)) ≡ cond b round (goal_at n (get_or order p 0) target goals)
  settled_kept i p target goals g small le inside stands true cyclic = refl
  settled_kept i p target goals g small le inside stands false cyclic = goal_kept n k target goals (set goals m g) (λ j is. get_other goals m j g (apart j is))
    where
      k : ℕ
      k = get_or order p 0

      m : ℕ
      m = get_or order i 0

      within : k < length (rows_of_targets targets)
      within = omega (arith, slice_get_within (rows_of_targets targets) k (targets_row target) (slice_get-map targets_row targets k ∙ ap (option_map targets_row) stands))

      differ : (j : ℕ) → StandsBefore order j k → j ≡ m → ⊥
      differ j (q, r, lower, last, is_j, is_k) same =
          let r_is : r ≡ p = each.once r p last inside is_k in
          let q_is : q ≡ i = each.once q i (omega (arith, lower, last)) small (is_j ∙ same) in
          omega (arith, lower, r_is, q_is, le)

      apart : (j : ℕ) → target ≡ Some (nodes.Reference j) → j ≡ m → ⊥
      apart j is = differ j (behind k j (edge targets k j (stands ∙ ap Some is)) (off_cycle k within cyclic))

  pub progress_next : (i : ℕ) (target : Option Node) (goals : List Goal) → i < length order → slice_get targets (get_or order i 0) ≡ Some target → Progress n targets on_cycle order i goals
      → Progress n targets on_cycle order (i + 1) (set goals (get_or order i 0) (settled_goal n on_cycle (get_or order i 0) target goals))
  progress_next i target goals small stands before = record {
    size = length-set goals m g ∙ before.size;
    right = λ p t lt inside at. step p t lt inside at (cases_lt p i);
  }
    where
      m : ℕ
      m = get_or order i 0

      g : Goal
      g = settled_goal n on_cycle m target goals

      later : List Goal
      later = set goals m g

      kept : (p : ℕ) (t : Option Node) → p ≤ i → p < length order → slice_get targets (get_or order p 0) ≡ Some t → settled_goal n on_cycle (get_or order p 0) t later ≡ settled_goal n on_cycle (get_or order p 0) t goals
      kept p t le inside at = settled_kept i p t goals g small le inside at (slice_index_or on_cycle (get_or order p 0) false) refl

      same_target : (t u : Option Node) → Some t ≡ Some u → t ≡ u
      same_target t u e = cc

      step : (p : ℕ) (t : Option Node) → p < i + 1 → p < length order → slice_get targets (get_or order p 0) ≡ Some t → (p < i) ⊎ (i ≤ p)
          → slice_get later (get_or order p 0) ≡ Some (settled_goal n on_cycle (get_or order p 0) t later)
      step p t lt inside at (inl lower) =
          get_other goals m (get_or order p 0) g (λ same. omega (arith, each.once p i inside small same, lower))
          ∙ before.right p t lower inside at ∙ ap Some (sym (kept p t (omega (arith, lower)) inside at))
      step p t lt inside at (inr upper) =
          let here : p ≡ i = omega (arith, lt, upper) in
          let place : get_or order p 0 ≡ m = ap (λ q. get_or order q 0) here in
          let t_is : t ≡ target = same_target t target (sym at ∙ ap (slice_get targets) place ∙ stands) in
          ap (slice_get later) place ∙ get_same goals m g (omega (arith, slice_get_within targets m target stands, before.size))
          ∙ ap Some (ap (λ u. settled_goal n on_cycle m u goals) (sym t_is) ∙ ap (λ q. settled_goal n on_cycle q t goals) (sym place)) ∙ ap Some (sym (kept p t (omega (arith, here)) inside at))

  pub goals_settled : (i : ℕ) (goals : List Goal) → length order ≤ i → Progress n targets on_cycle order i goals → AreGoals n targets on_cycle goals
  goals_settled i goals past done = record {
    size = done.size;
    each = λ k target stands. at k target stands (each.every k (omega (arith, slice_get_within (rows_of_targets targets) k (targets_row target) (slice_get-map targets_row targets k ∙ ap (option_map targets_row) stands))));
  }
    where
      at : (k : ℕ) (target : Option Node) → slice_get targets k ≡ Some target → Contains order k → slice_get goals k ≡ Some (settled_goal n on_cycle k target goals)
      at k target stands has =
          let place = at_contains order k has in
          let inside = slice_get_within order place.0 k place.1 in
          let is : get_or order place.0 0 ≡ k = get_or_from_slice_get order place.0 k 0 place.1 in
          subst (λ q. slice_get goals q ≡ Some (settled_goal n on_cycle q target goals)) is
          (done.right place.0 target (omega (arith, inside, past)) inside (ap (slice_get targets) is ∙ stands))

  -- one more is settled, with the order and the target by names of their own
  pub progress_stored : (i : ℕ) (goals : List Goal) (xs : List ℕ) (g : Goal) → xs ≡ order → i < length xs → g ≡ settled_goal n on_cycle (get_or xs i 0) (get_or targets (get_or xs i 0) None) goals
      → Progress n targets on_cycle order i goals → Progress n targets on_cycle order (i + 1) (set goals (get_or xs i 0) g)
  progress_stored i goals xs g same small is before =
      let lower : i < length order = subst (λ ys. i < length ys) same small in
      let inside : get_or order i 0 < length (rows_of_targets targets) = All-get_or (λ k. k < length (rows_of_targets targets)) order i 0 lower each.only in
      let stands : slice_get targets (get_or order i 0) ≡ Some (get_or targets (get_or order i 0) None) = slice_get-get_or targets (get_or order i 0) None (omega (arith, inside, length-map targets targets_row)) in
      let place : get_or xs i 0 ≡ get_or order i 0 = ap (λ ys. get_or ys i 0) same in
      subst (λ h. Progress n targets on_cycle order (i + 1) (set goals (get_or xs i 0) h)) (sym is)
      (subst (λ m. Progress n targets on_cycle order (i + 1) (set goals m (settled_goal n on_cycle m (get_or targets m None) goals))) (sym place)
      (progress_next i (get_or targets (get_or order i 0) None) goals lower stands before))
