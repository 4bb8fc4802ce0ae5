use Rattle.pn_checks.specs.Tokens.{KeepsOthers, StillGets}
use Rattle.pn_checks.proofs.tokens.put_all.Given as goal

abbrev pub invariant-loop-value : goal.invariant-loop-value
invariant-loop-value l =
    (goal.iterator-loop-value).can_next l.value-iterator ×
    (goal.iterator-loop-value).is_finite l.value-iterator ×
    StillGets l.place l.bag l.value-iterator l.initial.marking l.marking ×
    KeepsOthers l.place l.initial.marking l.marking
