use Rattle.pn_operations.proofs.SumLemmas.{without_finds}
use Rattle.pn_operations.proofs.laws.differences_by_counts.Goals as goal

pub returns-clause-some : goal.returns-clause-some
returns-clause-some c = λ whole parts rest value is e. ((without_finds whole parts is).some rest e).counts value

pub returns-clause-none : goal.returns-clause-none
returns-clause-none c = λ whole parts is e includes. (without_finds whole parts is).none e includes
