use Rattle.pn_operations.proofs.CountLemmas.{test_includes, includes_test, same_counts}
use Rattle.pn_operations.proofs.laws.inclusion_by_counts.Goals as goal

pub returns-clause-includes : goal.returns-clause-includes
returns-clause-includes c = λ whole part. (test_includes whole part, includes_test whole part)

pub returns-clause-same : goal.returns-clause-same
returns-clause-same c = same_counts
