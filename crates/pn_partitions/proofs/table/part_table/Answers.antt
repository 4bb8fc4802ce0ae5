use Rattle.std.proofs.Common.{◌<◌, ℕ, IfSome, true≢false, sym, subst, ◌∙◌}
use Rattle.std.specs.List.{flat_map}
use Rattle.pn_partitions.specs.Tables.{place_of, places_in, AreEachOnce}
use Rattle.pn_partitions.proofs.SplitLemmas.{within_size, each_once, not_enough, all_listed}
use Rattle.pn_partitions.proofs.TableLemmas.{both_answered, some_answered}
use Rattle.pn_partitions.proofs.table.part_table.Goals as goal

pub returns-then-not-list_enough-clause-splits : goal.returns-then-not-list_enough-clause-splits
returns-then-not-list_enough-clause-splits c = (
  λ h. absurd (true≢false (sym h)),
  λ splits. absurd (not_enough c.args.index.now c.args.items.now c.args.base.now c.in-Some.size c.requires.names (sym c.in-Some.ensures.splittable) c.in-Some.ensures.sized c.args.elements.now
      (λ enough. true≢false (sym (c.if-not-list_enough.ensures.1 enough))) splits),
)

pub filled-requires-clause-within : goal.filled-requires-clause-within
filled-requires-clause-within c e =
    subst (λ (n : ℕ). IfSome (place_of c.args.index.now c.args.base.now e) (λ k. k < n)) (sym (c.deref_mut.ensures.len ∙ c.in_ok-table.ensures.len))
    (within_size c.args.index.now c.args.items.now c.args.base.now c.in-Some.size c.requires.names (sym c.in-Some.ensures.splittable) c.in-Some.ensures.sized e)

pub returns-clause-splits : goal.returns-clause-splits
returns-clause-splits c =
    let long = c.deref_mut.ensures.len ∙ c.in_ok-table.ensures.len in
    both_answered c.filled.result _ _ _ _
    (λ refused splits. refused (subst (λ (n : ℕ). AreEachOnce n (flat_map (places_in c.args.index.now c.args.base.now) c.args.elements.now)) (sym long)
    (each_once c.args.index.now c.args.items.now c.args.base.now c.in-Some.size c.requires.names (sym c.in-Some.ensures.splittable) c.in-Some.ensures.sized c.args.elements.now splits)))
    (λ v size filled. (all_listed c.args.index.now c.args.items.now c.args.base.now c.in-Some.size c.requires.names (sym c.in-Some.ensures.splittable) c.in-Some.ensures.sized c.args.elements.now v.items (size ∙ long) filled).0)
    c.filled.ensures.refused c.filled.ensures.length c.filled.ensures.filled

pub returns-clause-table : goal.returns-clause-table
returns-clause-table c =
    let long = c.deref_mut.ensures.len ∙ c.in_ok-table.ensures.len in
    some_answered c.filled.result _ _ _
    (λ v size filled. (all_listed c.args.index.now c.args.items.now c.args.base.now c.in-Some.size c.requires.names (sym c.in-Some.ensures.splittable) c.in-Some.ensures.sized c.args.elements.now v.items (size ∙ long) filled).1)
    c.filled.ensures.length c.filled.ensures.filled
