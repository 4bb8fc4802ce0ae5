use Rattle.std.proofs.Common.{map, string_bytes, take}
use Rattle.pn_stepping.specs.Stepping.{AreTold}
use Rattle.pn_stepping.specs.Telling.{entries_of}
use Rattle.pn_stepping.proofs.stepping.tell_all.Given as goal

abbrev pub invariant-loop-i : goal.invariant-loop-i
invariant-loop-i l = AreTold l.net (take l.i (map string_bytes l.words)) (entries_of l.entries.items)
