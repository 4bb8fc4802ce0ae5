use Rattle.std.proofs.Common.{◌≡◌, ◌++◌, suc, drop, take, subst, arith, set, ◌*◌}
use Rattle.pn_bag.specs.declared.TheConstants.{MAX_COUNT}
use Rattle.pn_bag.proofs.Sifting.{multiplied, multiplied_more, still_fits}
use Rattle.pn_bag.proofs.scales.multiply.Goals as goal

pub loop-index-preserved : goal.loop-index-preserved
loop-index-preserved g c =
    let xs = c.args.entries.now.items in
    let i = c.loop-index.index in
    let x = c.index_mut.result.now in
    subst (λ j. set c.loop-index.entries.items i (x.0, x.1 * c.args.by) ≡ multiplied c.args.by (take j xs) ++ drop j xs) {x = suc i} (omega arith) (multiplied_more c.args.by xs c.loop-index.entries.items i x (omega arith) c.loop-index.invariant c.index_mut.ensures.value)

pub overflow_mul-index_mut : goal.overflow_mul-index_mut
overflow_mul-index_mut g c =
    omega (arith, still_fits c.args.by MAX_COUNT c.args.entries.now.items c.loop-index.entries.items c.loop-index.index c.index_mut.result.now (omega arith) c.loop-index.invariant c.index_mut.ensures.value c.requires)
