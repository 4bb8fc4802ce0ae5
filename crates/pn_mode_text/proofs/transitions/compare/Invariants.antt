use Rattle.std.proofs.Common.{[], ◌∷◌, map}
use Rattle.pn_lines.specs.Escapes.{escaped}
use Rattle.pn_words.specs.Languages.{Broken, Closed, Listed}
use Rattle.pn_mode_text.specs.ModeReadings.{transition_ids}
use Rattle.pn_mode_text.proofs.transitions.compare.Given as goal

abbrev pub invariant-loop-place : goal.invariant-loop-place
invariant-loop-place l = Broken (Closed (Listed (map escaped (transition_ids l.net)) l.place) (91 ∷ [])) l.bytes l.left
