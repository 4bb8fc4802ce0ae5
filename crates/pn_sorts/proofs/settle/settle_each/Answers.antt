use Rattle.std.proofs.Common.{◌≡◌, length, refl, subst, arith}
use Rattle.pn_faults.specs.Standing.{IsLeastOf}
use Rattle.pn_sorts.specs.Settling.{IsKnown}
use Rattle.pn_sorts.proofs.SettleLemmas.{least_more, settled_more}
use Rattle.pn_sorts.proofs.settle.settle_each.Goals as goal

pub loop-item-preserved : goal.loop-item-preserved
loop-item-preserved c = (
  settled_more c.args.items.now c.args.table.now.sorts c.loop-item.item-index c.item-item.result c.loop-item.sorts.items c.push.new.self.items c.loop-item.tables.items c.push-in-loop-item.new.self.items c.in_ok-sort.sort c.in_ok-sort.parts
      c.loop-item.invariant.0 c.loop-item-test.true c.item-item.is c.in_ok-push.ensures.items c.in_ok-push-2.ensures.items c.in_ok-sort.ensures.sort c.in_ok-sort.ensures.table,
  least_more c.args.items.now c.loop-item.item-index c.item-item.result c.loop-item.least c.settle_item.new.least c.loop-item-test.true c.item-item.is c.loop-item.invariant.1 (c.in_ok-sort.ensures.least refl),
)

pub returns-clause-least : goal.returns-clause-least
returns-clause-least c =
    let all : c.loop-item.item-index ≡ length c.args.items.now = omega (arith, c.loop-item-test.false, c.loop-item.auto.item-index-end) in
    subst (λ n. IsLeastOf (IsKnown c.args.items.now n) c.loop-item.least) all c.loop-item.invariant.1
