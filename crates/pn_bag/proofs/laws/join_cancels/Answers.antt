use Rattle.std.proofs.Common.{arith}
use Rattle.pn_bag.proofs.Summing.{count_of-joined}
use Rattle.pn_bag.proofs.laws.join_cancels.Goals as goal

pub returns : goal.returns
returns g c = λ xs ys zs same key. omega (arith, same key, count_of-joined g.met.K.Ord.total xs zs key, count_of-joined g.met.K.Ord.total ys zs key)
