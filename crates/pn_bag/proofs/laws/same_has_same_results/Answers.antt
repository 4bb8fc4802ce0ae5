use Rattle.std.proofs.Common.{◌*◌, ap, sym, ◌∙◌, arith}
use Rattle.pn_bag.proofs.Summing.{count_of-joined, count_of-scaled, count_of-image, image_count_least}
use Rattle.pn_bag.proofs.laws.same_has_same_results.Goals as goal

pub returns-clause-join : goal.returns-clause-join
returns-clause-join g c = λ xs ys more others same too key.
    omega (arith, same key, too key, count_of-joined g.met.K.Ord.total xs more key, count_of-joined g.met.K.Ord.total ys others key)

pub returns-clause-scale : goal.returns-clause-scale
returns-clause-scale g c = λ n xs ys same key.
    count_of-scaled g.K.Ord.cmp n xs key ∙ ap (λ m. n * m) (same key) ∙ sym (count_of-scaled g.K.Ord.cmp n ys key)

-- the image of each includes the other's
pub returns-clause-image : goal.returns-clause-image
returns-clause-image g c = λ pairs xs ys same key.
    let total = g.met.L.Ord.total in
    let cmp = g.K.Ord.cmp in
    omega (arith, count_of-image cmp total pairs xs key, count_of-image cmp total pairs ys key, image_count_least cmp total pairs xs ys (λ k. omega (arith, same k)) key, image_count_least cmp total pairs ys xs (λ k. omega (arith, same k)) key)
