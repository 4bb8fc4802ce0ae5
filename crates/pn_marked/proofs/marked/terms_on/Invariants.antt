use Rattle.std.proofs.Common.{◌<◌, ◌≤◌}
use Rattle.pn_bag.specs.Counts.{Every}
use Rattle.pn_bag.specs.declared.TheConstants.{MAX_COUNT}
use Rattle.pn_marked.specs.Gathering.{AreTermsBefore}
use Rattle.pn_marking.specs.Totals.{AreTokensOf}
use Rattle.pn_marked.proofs.marked.terms_on.Given as goal

abbrev pub invariant-loop-token : goal.invariant-loop-token
invariant-loop-token l =
    (goal.iterator-loop-token).can_next l.token-iterator ×
    (goal.iterator-loop-token).is_finite l.token-iterator ×
    AreTermsBefore l.net l.marking l.token-iterator l.terms.items ×
    AreTokensOf l.net l.token-iterator ×
    Every (λ entry. (0 < entry.1) × (entry.1 ≤ MAX_COUNT)) l.token-iterator
