use Rattle.std.proofs.Common.{length, ◌-◌}
use Rattle.pn_mode_text.proofs.UnescapedLemmas.{IsUnescaped}
use Rattle.pn_mode_text.proofs.escapes.unescape.Given as goal

abbrev pub invariant-loop-at : goal.invariant-loop-at
invariant-loop-at l = IsUnescaped l.id.items l.bytes l.at

abbrev pub decreases-loop-at : goal.decreases-loop-at
decreases-loop-at l = length l.bytes - l.at
