use Rattle.pn_bag.proofs.Summing.{count_of-scaled}
use Rattle.pn_bag.proofs.laws.scale_counts.Goals as goal

pub returns : goal.returns
returns g c = λ n xs key. count_of-scaled g.K.Ord.cmp n xs key
