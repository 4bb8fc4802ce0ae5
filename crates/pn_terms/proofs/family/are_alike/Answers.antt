use Rattle.std.proofs.Common.{◌∙◌, refl}
use Rattle.pn_terms.proofs.WalkLemmas.{alike_next, alike_all}
use Rattle.pn_terms.proofs.family.are_alike.Goals as goal

pub loop-sort-preserved : goal.loop-sort-preserved
loop-sort-preserved c = alike_next c.args.sorts.now c.loop-sort.sort-index c.sort-item.result c.loop-sort-test.true c.sort-item.is (c.if-not-is_same.ensures.0 refl ∙ c.sort_at.ensures) c.loop-sort.invariant

pub returns : goal.returns
returns c = (λ _. alike_all c.args.sorts.now c.loop-sort.sort-index c.loop-sort-test.false c.loop-sort.invariant, λ _. refl)
