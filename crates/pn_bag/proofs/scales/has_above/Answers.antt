use Rattle.std.proofs.Common.{◌≤◌, arith, refl}
use Rattle.std.proofs.lemmas.Bool.{false≢true}
use Rattle.pn_bag.proofs.Counting.{at_each_key}
use Rattle.pn_bag.proofs.Walking.{count_of_read, every_taken}
use Rattle.pn_bag.proofs.scales.has_above.Goals as goal

-- the key of the entry has its count
pub returns-then-entry-most-clause-above : goal.returns-then-entry-most-clause-above
returns-then-entry-most-clause-above g c = (λ yes. (c.entry-item.result.0, omega (arith, count_of_read g.met.K.Ord.total _ _ c.entry-item.result c.requires c.loop-entry-test.true c.entry-item.is)), λ some. refl)

-- no key has more than the entries have
pub returns-clause-above : goal.returns-clause-above
returns-clause-above g c = (λ never. absurd (false≢true never), λ (key, above). absurd (omega (arith, at_each_key g.met.K.Ord.total (λ k n. n ≤ c.args.most) (λ a b n tied le. le) (λ k. omega arith) c.args.entries.now c.requires (every_taken _ _ _ c.loop-entry-test.false c.loop-entry.invariant) key)))
