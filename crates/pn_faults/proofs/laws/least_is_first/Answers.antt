use Rattle.std.proofs.Common.{ap}
use Rattle.pn_faults.specs.Least.{least_fault}
use Rattle.pn_faults.proofs.LeastLemmas.{first-from_least_fault, least_fault-from_first, least_fault-is_none}
use Rattle.pn_faults.proofs.laws.least_is_first.Goals as goal

pub returns-clause-some : goal.returns-clause-some
returns-clause-some c = λ faults least. (first-from_least_fault faults least, least_fault-from_first faults least)

pub returns-clause-none : goal.returns-clause-none
returns-clause-none c = λ faults. (least_fault-is_none faults, λ e. ap least_fault e)
