use Rattle.pn_bag.proofs.Canonical.{same_entries}
use Rattle.pn_bag.proofs.laws.same_counts_same_entries.Goals as goal

pub returns : goal.returns
returns g c = λ same_key xs ys is_xs is_ys same. same_entries g.met.K.Ord.total same_key xs ys is_xs is_ys same
