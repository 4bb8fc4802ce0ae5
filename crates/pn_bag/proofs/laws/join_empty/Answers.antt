use Rattle.std.proofs.Common.{arith}
use Rattle.std.proofs.Common.{[]}
use Rattle.pn_bag.proofs.Summing.{count_of-joined}
use Rattle.pn_bag.proofs.laws.join_empty.Goals as goal

pub returns-clause-right : goal.returns-clause-right
returns-clause-right g c = λ xs key. omega (arith, count_of-joined g.met.K.Ord.total xs [] key)

pub returns-clause-left : goal.returns-clause-left
returns-clause-left g c = λ xs key. omega (arith, count_of-joined g.met.K.Ord.total [] xs key)
