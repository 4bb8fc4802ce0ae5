use Rattle.pn_mode_text.proofs.QuotedLemmas.{IsInside}
use Rattle.pn_mode_text.proofs.quoted.read_ended.Given as goal

abbrev pub invariant-loop-at : goal.invariant-loop-at
invariant-loop-at l = IsInside l.text.items l.bytes l.at l.inside
