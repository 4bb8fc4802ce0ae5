use Rattle.std.proofs.Common.{◌≡◌, None, take}
use Rattle.pn_faults.specs.Walks.{KeepsLeast, StandsInSome}
use Rattle.pn_checks.specs.LabelFaults.{TransitionLabels}
use Rattle.pn_checks.specs.SoundLabels.{HaveSaidSorts}
use Rattle.pn_net.specs.Labels.{said}
use Rattle.pn_checks.proofs.typing.keep_transitions.Given as goal

abbrev pub invariant-loop-transition : goal.invariant-loop-transition
invariant-loop-transition l =
    KeepsLeast (StandsInSome (TransitionLabels l.decls) (take l.transition-index l.transitions)) l.initial.least l.least × (l.least ≡ None → HaveSaidSorts l.decls (λ t. said t.condition) (take l.transition-index l.transitions))
