use Rattle.pn_bag.proofs.Canonical.{multiset-joined, multiset-scaled, multiset-image}
use Rattle.pn_bag.proofs.laws.results_are_multisets.Goals as goal

pub returns-clause-join : goal.returns-clause-join
returns-clause-join g c = λ xs ys is_xs is_ys. multiset-joined g.met.K.Ord.total xs ys is_xs

pub returns-clause-scale : goal.returns-clause-scale
returns-clause-scale g c = λ n xs is. multiset-scaled g.K.Ord.cmp n xs is

pub returns-clause-image : goal.returns-clause-image
returns-clause-image g c = λ pairs xs. multiset-image g.met.L.Ord.total g.K.Ord.cmp pairs xs
