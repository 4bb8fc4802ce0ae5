use Rattle.pn_bag.proofs.Shortness.{one_first_short}
use Rattle.pn_bag.proofs.laws.first_short_is_one.Goals as goal

pub returns : goal.returns
returns g c = λ has needs one other first second. one_first_short g.K.Ord.cmp has needs one other first second
