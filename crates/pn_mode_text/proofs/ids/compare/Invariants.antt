use Rattle.std.proofs.Common.{map}
use Rattle.pn_lines.specs.Escapes.{escaped}
use Rattle.pn_words.specs.Languages.{Broken, Closed, Listed}
use Rattle.pn_mode_text.specs.Readings.{ids_at}
use Rattle.pn_mode_text.proofs.ids.compare.Given as goal

abbrev pub invariant-loop-index : goal.invariant-loop-index
invariant-loop-index l = Broken (Closed (Listed (map escaped (ids_at l.decls l.place)) l.index) l.marks) l.bytes l.left
