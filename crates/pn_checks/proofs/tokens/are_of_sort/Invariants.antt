use Rattle.std.proofs.Common.{◌↔◌}
use Rattle.pn_checks.specs.NoValue.{AreOfSort}
use Rattle.pn_checks.proofs.tokens.are_of_sort.Given as goal

abbrev pub invariant-loop-value : goal.invariant-loop-value
invariant-loop-value l =
    (goal.iterator-loop-value).can_next l.value-iterator ×
    (goal.iterator-loop-value).is_finite l.value-iterator ×
    (AreOfSort l.decls l.sort l.bag ↔ AreOfSort l.decls l.sort l.value-iterator)
