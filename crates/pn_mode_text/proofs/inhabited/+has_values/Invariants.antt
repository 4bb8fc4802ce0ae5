use Rattle.std.proofs.Common.{take}
use Rattle.pn_mode_text.specs.ValueReadings.{AreInhabitedParts}
use Rattle.pn_mode_text.proofs.inhabited.+has_values.Given as goal

abbrev pub invariant-have_values-loop-i : goal.invariant-have_values-loop-i
invariant-have_values-loop-i l = AreInhabitedParts l.decls (take l.i l.sorts)
