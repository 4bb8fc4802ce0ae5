use Rattle.pn_marking.proofs.PutLemmas.{StillPuts}
use Rattle.pn_marking.proofs.tokens.put_all.Given as goal

abbrev pub invariant-loop-value : goal.invariant-loop-value
invariant-loop-value l =
    (goal.iterator-loop-value).can_next l.value-iterator ×
    (goal.iterator-loop-value).is_finite l.value-iterator ×
    StillPuts l.place l.bag l.value-iterator l.marking
