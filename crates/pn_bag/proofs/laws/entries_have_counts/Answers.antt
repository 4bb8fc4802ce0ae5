use Rattle.pn_bag.proofs.Canonical.{entries_count, has_entry}
use Rattle.pn_bag.proofs.laws.entries_have_counts.Goals as goal

pub returns-clause-counts : goal.returns-clause-counts
returns-clause-counts g c = λ xs rising. entries_count g.met.K.Ord.total xs rising

pub returns-clause-keys : goal.returns-clause-keys
returns-clause-keys g c = λ xs key some. has_entry g.K.Ord.cmp xs key some
