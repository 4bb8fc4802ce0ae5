use Rattle.std.proofs.Common.{◌≡◌, ◌≤◌}
use Rattle.pn_bag.specs.Counts.{Every, count_of}
use Rattle.pn_net.specs.Orders.{token_cmp}
use Rattle.pn_modes.proofs.fronts.has_all.Given as goal

abbrev pub invariant-loop-token : goal.invariant-loop-token
invariant-loop-token l =
    (goal.iterator-loop-token).can_next l.token-iterator ×
    (goal.iterator-loop-token).is_finite l.token-iterator ×
    (Every (λ entry. entry.1 ≤ count_of token_cmp l.marking entry.0) l.token-iterator → Every (λ entry. entry.1 ≤ count_of token_cmp l.marking entry.0) l.tokens) ×
    Every (λ entry. count_of token_cmp l.tokens entry.0 ≡ entry.1) l.token-iterator
