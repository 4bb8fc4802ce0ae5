-- The nodes of a group are done, one after another.
use Rattle.std.proofs.Common.{◌≡◌, ℕ, ◌+◌, ◌-◌, ◌<◌, ◌≤◌, ◌≢◌, List, [], ◌∷◌, ◌++◌, ◌⊎◌, inl, inr, length, get_or, set, take, drop, Bool, false, sym, ap, ◌∙◌, subst, arith}
use Rattle.std.proofs.Common.{length-append, length-drop}
use Rattle.std.proofs.lemmas.List.{length-take, length-set, get_or-set_same, get_or-set_other, take_more, append_assoc, get_or-drop}
use Rattle.std.proofs.lemmas.Bool.{cases_eq}
use Rattle.pn_cycles.specs.declared.search.Mark.{Mark}
use Rattle.pn_cycles.specs.declared.search.Mark.TheVariants.{New, Done}
use Rattle.pn_cycles.specs.declared.search.Group.{Group}
use Rattle.pn_cycles.specs.Searches.{mark_of, IsFinish}

module _ (stack : List ℕ) (group : Group) (end : ℕ) (marks : List Mark) (nodes : List ℕ) (cyclic : List Bool) (marks' : List Mark) (nodes' : List ℕ) (cyclic' : List Bool) where
  -- how many are listed so far
  listed_so_far : IsFinish stack group end marks nodes cyclic marks' nodes' cyclic' → group.start ≤ end → end ≤ length stack → length nodes' ≡ length nodes + (end - group.start)
  listed_so_far f low high = omega (arith, ap length f.listed, length-append nodes (take (end - group.start) (drop group.start stack)), length-take (end - group.start) (drop group.start stack), length-drop group.start stack)

  pub finish_more : (marks'' : List Mark) (nodes'' : List ℕ) (cyclic'' : List Bool) → IsFinish stack group end marks nodes cyclic marks' nodes' cyclic' → group.start ≤ end → end < length stack → ((a b : ℕ) → a < length stack → b < length stack → get_or stack a 0 ≡ get_or stack b 0 → a ≡ b) → get_or stack end 0 < length marks' → get_or stack end 0 < length cyclic' → marks'' ≡ set marks' (get_or stack end 0) (Done (length nodes')) → nodes'' ≡ nodes' ++ get_or stack end 0 ∷ [] → cyclic'' ≡ set cyclic' (get_or stack end 0) group.cyclic → IsFinish stack group (end + 1) marks nodes cyclic marks'' nodes'' cyclic''
  finish_more marks'' nodes'' cyclic'' f low high apart in_marks in_cyclic marks_is nodes_is cyclic_is = record {
    listed = nodes_is ∙ ap (λ xs. xs ++ get_or stack end 0 ∷ []) f.listed ∙ append_assoc nodes (take (end - group.start) (drop group.start stack)) (get_or stack end 0 ∷ []) ∙ ap (λ xs. nodes ++ xs) (sym one_more);
    marks_sized = ap length marks_is ∙ length-set marks' (get_or stack end 0) (Done (length nodes')) ∙ f.marks_sized;
    cyclic_sized = ap length cyclic_is ∙ length-set cyclic' (get_or stack end 0) group.cyclic ∙ f.cyclic_sized;
    marked = λ at a b. ap (λ xs. mark_of xs (get_or stack at 0)) marks_is ∙ marked at a b (cases_eq at end);
    told = λ at a b. ap (λ xs. get_or xs (get_or stack at 0) false) cyclic_is ∙ told at a b (cases_eq at end);
    others_marked = λ node none. ap (λ xs. mark_of xs node) marks_is ∙ get_or-set_other marks' (get_or stack end 0) node (Done (length nodes')) New (λ e. none end low (omega arith) (sym e)) ∙ f.others_marked node (λ at a b. none at a (omega arith));
    others_told = λ node none. ap (λ xs. get_or xs node false) cyclic_is ∙ get_or-set_other cyclic' (get_or stack end 0) node group.cyclic false (λ e. none end low (omega arith) (sym e)) ∙ f.others_told node (λ at a b. none at a (omega arith));
  }
    where
      one_more : take (end + 1 - group.start) (drop group.start stack) ≡ take (end - group.start) (drop group.start stack) ++ get_or stack end 0 ∷ []
      one_more =
          let n : end + 1 - group.start ≡ end - group.start + 1 = omega arith in
          let k : group.start + (end - group.start) ≡ end = omega arith in
          let inside : end - group.start < length (drop group.start stack) = omega (arith, length-drop group.start stack) in
          ap (λ m. take m (drop group.start stack)) n ∙ take_more (drop group.start stack) (end - group.start) 0 inside ∙ ap (λ x. take (end - group.start) (drop group.start stack) ++ x ∷ []) (get_or-drop group.start stack (end - group.start) 0 ∙ ap (λ m. get_or stack m 0) k)

      marked : (at : ℕ) → group.start ≤ at → at < end + 1 → (at ≡ end) ⊎ (at ≢ end) → mark_of (set marks' (get_or stack end 0) (Done (length nodes'))) (get_or stack at 0) ≡ Done (length nodes + (at - group.start))
      marked at a b (inl e) = subst (λ k. mark_of (set marks' (get_or stack end 0) (Done (length nodes'))) (get_or stack k 0) ≡ Done (length nodes + (k - group.start))) (sym e) (get_or-set_same marks' (get_or stack end 0) (Done (length nodes')) New in_marks ∙ ap Done (listed_so_far f low (omega arith)))
      marked at a b (inr ne) = get_or-set_other marks' (get_or stack end 0) (get_or stack at 0) (Done (length nodes')) New (λ e. ne (apart at end (omega arith) high e)) ∙ f.marked at a (omega arith)

      told : (at : ℕ) → group.start ≤ at → at < end + 1 → (at ≡ end) ⊎ (at ≢ end) → get_or (set cyclic' (get_or stack end 0) group.cyclic) (get_or stack at 0) false ≡ group.cyclic
      told at a b (inl e) = subst (λ k. get_or (set cyclic' (get_or stack end 0) group.cyclic) (get_or stack k 0) false ≡ group.cyclic) (sym e) (get_or-set_same cyclic' (get_or stack end 0) group.cyclic false in_cyclic)
      told at a b (inr ne) = get_or-set_other cyclic' (get_or stack end 0) (get_or stack at 0) group.cyclic false (λ e. ne (apart at end (omega arith) high e)) ∙ f.told at a (omega arith)
