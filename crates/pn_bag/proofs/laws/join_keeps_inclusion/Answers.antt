use Rattle.std.proofs.Common.{arith}
use Rattle.pn_bag.proofs.Summing.{count_of-joined}
use Rattle.pn_bag.proofs.laws.join_keeps_inclusion.Goals as goal

pub returns : goal.returns
returns g c = λ xs ys more less whole part key. omega (arith, whole key, part key, count_of-joined g.met.K.Ord.total xs more key, count_of-joined g.met.K.Ord.total ys less key)
