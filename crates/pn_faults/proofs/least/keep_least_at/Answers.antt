use Rattle.std.proofs.Common.{Some, ap, ◌∙◌}
use Rattle.pn_faults.specs.Order.{fault_at}
use Rattle.pn_faults.proofs.LeastLemmas.{kept-more, lower-left, lower-taken}
use Rattle.pn_faults.proofs.least.keep_least_at.Goals as goal

pub returns-in_ok-detail-clause-so_far : goal.returns-in_ok-detail-clause-so_far
returns-in_ok-detail-clause-so_far c = λ faults e.
    let fault = fault_at c.args.reason c.args.at c.args.detail.now in
    ap (λ detail. Some (fault_at c.args.reason c.args.at detail)) c.in_ok-detail.ensures
    ∙ (lower-taken c.args.least.now fault c.is_lower.result (c.is_lower.ensures c.args.detail.now) c.if-is_lower.true ∙ kept-more c.args.least.now fault faults e)

pub returns-else-is_lower-clause-so_far : goal.returns-else-is_lower-clause-so_far
returns-else-is_lower-clause-so_far c = λ faults e.
    let fault = fault_at c.args.reason c.args.at c.args.detail.now in
    lower-left c.args.least.now fault c.is_lower.result (c.is_lower.ensures c.args.detail.now) c.if-is_lower.false ∙ kept-more c.args.least.now fault faults e
