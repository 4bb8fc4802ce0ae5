use Rattle.std.proofs.Common.{◌<◌}
use Rattle.pn_bag.specs.Counts.{Every, count_of}
use Rattle.pn_values.specs.Order.{value_cmp}
use Rattle.pn_marking.specs.Totals.{IsValueOn}
use Rattle.pn_marking.proofs.tokens.are_on.Given as goal

abbrev pub invariant-loop-value : goal.invariant-loop-value
invariant-loop-value l =
    (goal.iterator-loop-value).can_next l.value-iterator ×
    (goal.iterator-loop-value).is_finite l.value-iterator ×
    (Every (λ entry. IsValueOn l.net l.place entry.0) l.value-iterator → Every (λ entry. IsValueOn l.net l.place entry.0) l.bag) ×
    Every (λ entry. 0 < count_of value_cmp l.bag entry.0) l.value-iterator
