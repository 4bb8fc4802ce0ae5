use Rattle.std.proofs.Common.{arith}
use Rattle.pn_bag.specs.Algebra.{joined, scaled}
use Rattle.pn_bag.proofs.Summing.{count_of-joined, count_of-scaled}
use Rattle.pn_bag.proofs.laws.scale_over_join.Goals as goal

pub returns : goal.returns
returns g c = λ n xs ys key.
    let total = g.met.K.Ord.total in
    let cmp = g.K.Ord.cmp in
    grind (arith, count_of-scaled cmp n (joined cmp xs ys) key, count_of-joined total xs ys key, count_of-joined total (scaled n xs) (scaled n ys) key, count_of-scaled cmp n xs key, count_of-scaled cmp n ys key)
