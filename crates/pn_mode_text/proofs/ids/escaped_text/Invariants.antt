use Rattle.std.proofs.Common.{drop}
use Rattle.pn_lines.specs.Escapes.{escaped}
use Rattle.pn_words.specs.Languages.{Continues, Only}
use Rattle.pn_mode_text.proofs.ids.escaped_text.Given as goal

abbrev pub invariant-loop-at : goal.invariant-loop-at
invariant-loop-at l = Continues (Only (escaped l.text)) l.bytes (Only (escaped (drop l.at l.text))) l.rest (λ u. tt)
