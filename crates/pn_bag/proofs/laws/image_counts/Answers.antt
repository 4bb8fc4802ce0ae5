use Rattle.pn_bag.proofs.Summing.{count_of-image}
use Rattle.pn_bag.proofs.laws.image_counts.Goals as goal

pub returns : goal.returns
returns g c = λ pairs xs key. count_of-image g.K.Ord.cmp g.met.L.Ord.total pairs xs key
