use Rattle.std.proofs.Common.{◌≡◌, ◌↔◌}
use Rattle.pn_operations.proofs.multisets.has_same_entries.Given as goal

abbrev pub invariant-loop-value : goal.invariant-loop-value
invariant-loop-value l =
    (goal.iterator-loop-value).can_next l.value-iterator ×
    (goal.iterator-loop-value).is_finite l.value-iterator ×
    ((l.one ≡ l.other) ↔ (l.value-iterator ≡ l.others))
