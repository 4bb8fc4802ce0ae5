use Rattle.std.proofs.Common.{ℕ, zero, suc, ◌<◌, ◌≤◌, arith}
use Rattle.pn_bag.specs.Algebra.{image_count}
use Rattle.pn_bag.specs.Counts.{count_of}
use Rattle.pn_bag.proofs.Summing.{count_of-image, least_at_keys}
use Rattle.pn_bag.proofs.laws.image_reflects_inclusion.Goals as goal

-- a count of 0 is within any, and a key that has a count is in the map
least_by_cases : (n most : ℕ) → (0 < n → n ≤ most) → n ≤ most
least_by_cases zero most least = omega arith
least_by_cases (suc n) most least = least (omega arith)

pub returns : goal.returns
returns g c = λ pairs xs ys one has includes key.
    let total = g.met.L.Ord.total in
    let cmp = g.K.Ord.cmp in
    let to_cmp = g.L.Ord.cmp in
    let least = λ (to : g.row.L.Denot). let h : image_count cmp to_cmp pairs ys to ≤ image_count cmp to_cmp pairs xs to = omega (arith, includes to, count_of-image cmp total pairs xs to, count_of-image cmp total pairs ys to) in h in
    least_by_cases (count_of cmp ys key) (count_of cmp xs key) (λ some. least_at_keys g.met.K.Ord.total total xs ys pairs one least key (has key some))
