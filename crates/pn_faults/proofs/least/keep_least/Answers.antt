use Rattle.std.proofs.Common.{◌∙◌}
use Rattle.pn_faults.proofs.LeastLemmas.{kept-more, lower-left, lower-taken}
use Rattle.pn_faults.proofs.least.keep_least.Goals as goal

pub returns-then-is_lower-clause-so_far : goal.returns-then-is_lower-clause-so_far
returns-then-is_lower-clause-so_far c = λ faults e. lower-taken c.args.least.now c.args.fault c.is_lower.result (c.is_lower.ensures c.args.fault.detail) c.if-is_lower.true ∙ kept-more c.args.least.now c.args.fault faults e

pub returns-else-is_lower-clause-lower : goal.returns-else-is_lower-clause-lower
returns-else-is_lower-clause-lower c = lower-left c.args.least.now c.args.fault c.is_lower.result (c.is_lower.ensures c.args.fault.detail) c.if-is_lower.false

pub returns-else-is_lower-clause-so_far : goal.returns-else-is_lower-clause-so_far
returns-else-is_lower-clause-so_far c = λ faults e. lower-left c.args.least.now c.args.fault c.is_lower.result (c.is_lower.ensures c.args.fault.detail) c.if-is_lower.false ∙ kept-more c.args.least.now c.args.fault faults e
