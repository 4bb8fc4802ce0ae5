use Rattle.std.proofs.Common.{arith}
use Rattle.pn_bag.specs.Algebra.{scaled, image_of}
use Rattle.pn_bag.proofs.Summing.{count_of-scaled, count_of-image, image_count_times}
use Rattle.pn_bag.proofs.laws.image_of_scale.Goals as goal

pub returns : goal.returns
returns g c = λ pairs n xs key.
    let total = g.met.L.Ord.total in
    let cmp = g.K.Ord.cmp in
    let to_cmp = g.L.Ord.cmp in
    grind (arith, count_of-image cmp total pairs (scaled n xs) key, image_count_times cmp total n pairs (scaled n xs) xs (count_of-scaled cmp n xs) key, count_of-scaled to_cmp n (image_of cmp to_cmp pairs xs) key, count_of-image cmp total pairs xs key)
