use Rattle.std.proofs.Common.{drop}
use Rattle.pn_carriers.proofs.OrdinalLemmas.{SoFar}
use Rattle.pn_carriers.proofs.ordinals.+ordinal.Given as goal

abbrev pub invariant-choice_place-loop-i : goal.invariant-choice_place-loop-i
invariant-choice_place-loop-i l = SoFar l.widths l.parts l.values (drop l.i l.parts) (drop l.i l.values) l.place
