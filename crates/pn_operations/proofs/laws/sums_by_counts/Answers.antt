use Rattle.pn_operations.proofs.SumLemmas.{total_multiset, total_counts, sum_none}
use Rattle.pn_operations.proofs.laws.sums_by_counts.Goals as goal

pub returns-clause-order : goal.returns-clause-order
returns-clause-order c = total_multiset

pub returns-clause-counts : goal.returns-clause-counts
returns-clause-counts c = total_counts

pub returns-clause-none : goal.returns-clause-none
returns-clause-none c = sum_none
