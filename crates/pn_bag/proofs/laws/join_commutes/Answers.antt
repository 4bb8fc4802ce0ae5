use Rattle.std.proofs.Common.{arith}
use Rattle.pn_bag.proofs.Summing.{count_of-joined}
use Rattle.pn_bag.proofs.laws.join_commutes.Goals as goal

pub returns : goal.returns
returns g c = λ xs ys key. omega (arith, count_of-joined g.met.K.Ord.total xs ys key, count_of-joined g.met.K.Ord.total ys xs key)
