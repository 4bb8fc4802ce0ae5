use Rattle.pn_faults.specs.Order.{fault_at}
use Rattle.pn_faults.proofs.LeastLemmas.{lower-by_test}
use Rattle.pn_faults.proofs.least.is_lower.Goals as goal

pub returns-in-Some : goal.returns-in-Some
returns-in-Some c = λ detail. lower-by_test c.args.least.now c.in-Some.kept (fault_at c.args.reason c.args.at detail) c.precedes.result c.in-Some.is (c.precedes.ensures detail)
