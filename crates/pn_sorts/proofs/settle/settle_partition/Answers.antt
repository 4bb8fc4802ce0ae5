use Rattle.std.proofs.Common.{inl, inr, subst, refl}
use Rattle.pn_faults.specs.Order.{fault_at}
use Rattle.pn_faults.specs.declared.reason.Reason.TheVariants as reasons
use Rattle.pn_sorts.specs.Settling.{IsBadFault, IsParting}
use Rattle.pn_faults.proofs.WalkLemmas.{keeps_nothing, keeps_one}
use Rattle.pn_sorts.proofs.SettleLemmas.{not_bad_split, not_bad_unasked}
use Rattle.pn_sorts.proofs.settle.settle_partition.Goals as goal

pub returns-in-Unasked-clause-table : goal.returns-in-Unasked-clause-table
returns-in-Unasked-clause-table c = inr (subst (IsParting c.args.items.now c.args.sort.now c.args.elements.now) c.in-Unasked.is c.in_ok-divided.ensures)

pub returns-in-Unasked-clause-least : goal.returns-in-Unasked-clause-least
returns-in-Unasked-clause-least c _ =
    let parting = subst (IsParting c.args.items.now c.args.sort.now c.args.elements.now) c.in-Unasked.is c.in_ok-divided.ensures in
    keeps_nothing (IsBadFault c.args.items.now c.args.sort.now c.args.elements.now c.args.id.now c.args.at) c.args.least.now (λ f q. not_bad_unasked c.args.items.now c.args.sort.now c.args.elements.now parting q.0)

pub returns-in_ok-keep_least_at-in-Bad-clause-table : goal.returns-in_ok-keep_least_at-in-Bad-clause-table
returns-in_ok-keep_least_at-in-Bad-clause-table c = inl (subst (IsParting c.args.items.now c.args.sort.now c.args.elements.now) c.in-Bad.is c.in_ok-divided.ensures)

pub returns-in_ok-keep_least_at-in-Bad-clause-least : goal.returns-in_ok-keep_least_at-in-Bad-clause-least
returns-in_ok-keep_least_at-in-Bad-clause-least c _ =
    let bad = subst (IsParting c.args.items.now c.args.sort.now c.args.elements.now) c.in-Bad.is c.in_ok-divided.ensures in
    keeps_one (IsBadFault c.args.items.now c.args.sort.now c.args.elements.now c.args.id.now c.args.at) (fault_at reasons.BadPartition c.args.at c.args.id.now) c.args.least.now c.keep_least_at.new.least (bad, refl) (λ g q. q.1) c.in_ok-keep_least_at-in-Bad.ensures.lower

pub returns-in-Splits-clause-table : goal.returns-in-Splits-clause-table
returns-in-Splits-clause-table c = subst (IsParting c.args.items.now c.args.sort.now c.args.elements.now) c.in-Splits.is c.in_ok-divided.ensures

pub returns-in-Splits-clause-least : goal.returns-in-Splits-clause-least
returns-in-Splits-clause-least c _ =
    let parting = subst (IsParting c.args.items.now c.args.sort.now c.args.elements.now) c.in-Splits.is c.in_ok-divided.ensures in
    keeps_nothing (IsBadFault c.args.items.now c.args.sort.now c.args.elements.now c.args.id.now c.args.at) c.args.least.now (λ f q. not_bad_split c.args.items.now c.args.sort.now c.args.elements.now c.in-Splits.parts parting q.0)
