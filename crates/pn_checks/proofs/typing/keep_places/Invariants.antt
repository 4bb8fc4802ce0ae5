use Rattle.std.proofs.Common.{◌≡◌, None, take}
use Rattle.pn_faults.specs.Walks.{KeepsLeast, StandsInSome}
use Rattle.pn_checks.specs.Initial.{AreMarked}
use Rattle.pn_checks.specs.LabelFaults.{PlaceLabels}
use Rattle.pn_checks.specs.NoValue.{SaysMultiset}
use Rattle.pn_checks.specs.Tokens.{AreEmptyFrom}
use Rattle.pn_checks.proofs.typing.keep_places.Given as goal

abbrev pub invariant-loop-i : goal.invariant-loop-i
invariant-loop-i l =
    KeepsLeast (StandsInSome (PlaceLabels l.decls) (take l.i l.places)) l.initial.least l.least × AreEmptyFrom l.i l.marking × (l.least ≡ None → AreMarked (SaysMultiset l.decls) (take l.i l.places) l.marking)
