use Rattle.std.proofs.Common.{arith}
use Rattle.pn_bag.specs.Algebra.{joined, image_of}
use Rattle.pn_bag.proofs.Summing.{count_of-joined, count_of-image, image_count_sum}
use Rattle.pn_bag.proofs.laws.image_of_join.Goals as goal

pub returns : goal.returns
returns g c = λ pairs xs ys key.
    let total = g.met.L.Ord.total in
    let cmp = g.K.Ord.cmp in
    let to_cmp = g.L.Ord.cmp in
    omega (arith, count_of-image cmp total pairs (joined cmp xs ys) key, image_count_sum cmp total pairs (joined cmp xs ys) xs ys (count_of-joined g.met.K.Ord.total xs ys) key, count_of-joined total (image_of cmp to_cmp pairs xs) (image_of cmp to_cmp pairs ys) key, count_of-image cmp total pairs xs key, count_of-image cmp total pairs ys key)
