use Rattle.std.proofs.Common.{arith}
use Rattle.pn_bag.specs.Algebra.{joined}
use Rattle.pn_bag.proofs.Summing.{count_of-joined}
use Rattle.pn_bag.proofs.laws.join_associates.Goals as goal

pub returns : goal.returns
returns g c = λ xs ys zs key.
    let total = g.met.K.Ord.total in
    let cmp = g.K.Ord.cmp in
    omega (arith, count_of-joined total (joined cmp xs ys) zs key, count_of-joined total xs ys key, count_of-joined total xs (joined cmp ys zs) key, count_of-joined total ys zs key)
