use Rattle.pn_bag.proofs.Summing.{count_of-joined}
use Rattle.pn_bag.proofs.laws.join_counts.Goals as goal

pub returns : goal.returns
returns g c = λ xs ys key. count_of-joined g.met.K.Ord.total xs ys key
