use Rattle.std.proofs.Common.{◌≡◌, None, List, take}
use Rattle.std.specs.List.{AllZip}
use Rattle.pn_faults.specs.Walks.{KeepsLeast, StandsInSome}
use Rattle.pn_checks.specs.LabelFaults.{ArcLabels}
use Rattle.pn_checks.specs.SoundLabels.{HaveSaidSorts}
use Rattle.pn_net.specs.Labels.{IsPlaceSort, said}
use Rattle.pn_objects.specs.declared.object.Place.{Place}
use Rattle.pn_checks.proofs.typing.keep_arcs.Given as goal

abbrev pub invariant-loop-arc : goal.invariant-loop-arc
invariant-loop-arc l =
    (places : List Place) → AllZip (IsPlaceSort l.decls) places l.sorts
    → KeepsLeast (StandsInSome (ArcLabels l.decls places) (take l.arc-index l.arcs)) l.initial.least l.least × (l.least ≡ None → HaveSaidSorts l.decls (λ a. said a.arc.inscription) (take l.arc-index l.arcs))
