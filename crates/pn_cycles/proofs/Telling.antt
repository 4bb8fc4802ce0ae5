-- What a search tells once each node is done.
use Rattle.std.proofs.Common.{◌≡◌, ℕ, ◌<◌, List, length, None, Bool, ◌⊎◌, inl, inr, refl, ap, ◌∙◌, subst, arith}
use Rattle.std.proofs.lemmas.List.{get_or_default}
use Rattle.pn_cycles.specs.declared.search.Mark.{Mark}
use Rattle.pn_cycles.specs.declared.search.Mark.TheVariants.{New, Open, Done}
use Rattle.pn_cycles.specs.declared.search.Group.{Group}
use Rattle.pn_cycles.specs.Graphs.{Leads, by_edge}
use Rattle.pn_cycles.specs.Orders.{ListsEachOnce, StandsBefore, StandBehindTargets, StandBehindOffCycles, TellsCycles}
use Rattle.pn_cycles.specs.Searches.{mark_of, IsUnderWay}
use Rattle.pn_cycles.proofs.Ways.{edge_start, leads_on}
use Rattle.pn_cycles.proofs.Working.{count_none}
use Rattle.pn_cycles.proofs.Paths.{no_group}

module _ (edges : List (List ℕ)) (marks : List Mark) (stack pending : List ℕ) (path : List Group) (nodes : List ℕ) (cyclic : List Bool) (is : IsUnderWay edges None marks stack pending path nodes cyclic) (empty : length path ≡ 0) (visited : (node : ℕ) → node < length edges → mark_of marks node ≡ New → ⊥) where
  all_done : (node : ℕ) → node < length edges → (at : ℕ) × (mark_of marks node ≡ Done at)
  all_done node h = go (mark_of marks node) refl
    where
      go : (m : Mark) → mark_of marks node ≡ m → (at : ℕ) × (mark_of marks node ≡ Done at)
      go New m = absurd (visited node h m)
      go (Open at) m = absurd (omega (arith, (is.stacked_at node at m).0, (no_group edges None marks stack pending path (length path) (length stack) (length pending) empty is.grouped).0))
      go (Done at) m = (at, m)

  pub tells_nodes : ListsEachOnce (length edges) nodes
  tells_nodes = record {
    size =
        let none = no_group edges None marks stack pending path (length path) (length stack) (length pending) empty is.grouped in
        omega (arith, is.counted, none.0, count_none marks (λ x h. visited x (omega (arith, is.marked))));
    only = λ k d h. subst (λ x. x < length edges) (get_or_default nodes k 0 d h) (is.listed k h).0;
    every = λ node h.
        let done = all_done node h in
        let listed = is.listed_at node done.0 done.1 in
        (done.0, listed.0, get_or_default nodes done.0 node 0 listed.0 ∙ listed.1);
    once = λ i j h k same.
        let a = (is.listed i h).1 in
        let b = (is.listed j k).1 in
        let c = ap (mark_of marks) same in
        cc;
  }

  pub tells_order : StandBehindTargets edges nodes
  tells_order start end edge =
      let done = all_done start (edge_start edges start end edge) in
      let next = is.closed start done.0 end done.1 edge in
      go done.0 done.1 next.0 next.1 next.2
    where
      go : (at : ℕ) → mark_of marks start ≡ Done at → (place : ℕ) → mark_of marks end ≡ Done place → (place < at) ⊎ Leads edges end start → StandsBefore nodes end start ⊎ Leads edges end start
      go at m place n (inl before) =
          let first = is.listed_at end place n in
          let second = is.listed_at start at m in
          inl (place, at, before, second.0, first.1, second.1)
      go at m place n (inr back) = inr back

  pub tells_off_cycles : StandBehindOffCycles edges nodes
  tells_off_cycles start end edge off = elim (tells_order start end edge) [ inl before ↦ before | inr back ↦ absurd (off (leads_on (by_edge edge) back)) ]

  pub tells_cycles : TellsCycles edges cyclic
  tells_cycles node h =
      let done = all_done node h in
      let told = is.cycles node done.0 done.1 in
      (λ yes. told.0 yes, λ way. told.1 way)
