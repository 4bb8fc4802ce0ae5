use Rattle.std.proofs.Common.{take}
use Rattle.pn_marking.specs.Steps.{AreModes}
use Rattle.pn_stepping.specs.Telling.{entries_of}
use Rattle.pn_stepping.proofs.stepping.are_modes.Given as goal

abbrev pub invariant-loop-i : goal.invariant-loop-i
invariant-loop-i l = AreModes l.net (take l.i (entries_of l.entries))
