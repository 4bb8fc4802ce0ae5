use Rattle.std.proofs.Common.{length, ◌-◌}
use Rattle.pn_words.proofs.SameLemmas.{Shares}
use Rattle.pn_words.proofs.literals.shared.Given as goal

abbrev pub invariant-loop-at : goal.invariant-loop-at
invariant-loop-at l = Shares l.word l.bytes l.at

abbrev pub decreases-loop-at : goal.decreases-loop-at
decreases-loop-at l = length l.word - l.at
