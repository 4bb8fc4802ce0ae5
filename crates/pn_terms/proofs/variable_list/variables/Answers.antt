use Rattle.std.proofs.Common.{◌≡◌, ◌++◌, ◌∙◌, ap, sym, subst}
use Rattle.std.specs.List.{Contains}
use Rattle.std.proofs.lemmas.List.Filters.{dedup_is}
use Rattle.std.proofs.lemmas.List.Kept.{Contains-dedup_nat, Contains-from_dedup}
use Rattle.std.proofs.lemmas.List.Sorted.{Contains-permutation, IsPermutation-sym}
use Rattle.std.proofs.lemmas.Map.Keys.{IsStrictlyIncreasing-dedup}
use Rattle.pn_terms.specs.Variables.{variables_in_term}
use Rattle.pn_terms.proofs.variable_list.variables.Goals as goal

pub returns-clause-ascending : goal.returns-clause-ascending
returns-clause-ascending c = let is = dedup_is _ _ _ c.dedup.ensures.filtered in rw is (IsStrictlyIncreasing-dedup _ c.sort_unstable.ensures.sorted)

pub returns-clause-each : goal.returns-clause-each
returns-clause-each c v =
    let is = dedup_is _ _ _ c.dedup.ensures.filtered in
    let moved = c.sort_unstable.ensures.permutation in
    let vars = variables_in_term c.args.decls.now c.args.term.now in
    let gathered : c.gather.new.all.items ≡ vars = c.in_ok-gather.ensures ∙ ap (λ xs. xs ++ vars) c.new-all.ensures.items in (
      λ h. subst (λ xs. Contains xs v) gathered (Contains-permutation _ _ v (IsPermutation-sym _ _ moved) (Contains-from_dedup _ _ v (rw is at h))),
      λ h. rw is (Contains-dedup_nat _ v (Contains-permutation _ _ v moved (subst (λ xs. Contains xs v) (sym gathered) h))),
    )
