use Rattle.std.proofs.Common.{arith}
use Rattle.pn_bag.proofs.Summing.{count_of-image, image_count_least}
use Rattle.pn_bag.proofs.laws.image_keeps_inclusion.Goals as goal

pub returns : goal.returns
returns g c = λ pairs xs ys includes key.
    let total = g.met.L.Ord.total in
    let cmp = g.K.Ord.cmp in
    omega (arith, count_of-image cmp total pairs xs key, count_of-image cmp total pairs ys key, image_count_least cmp total pairs xs ys includes key)
