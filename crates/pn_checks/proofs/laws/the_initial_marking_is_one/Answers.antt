use Rattle.std.proofs.Common.{[]}
use Rattle.pn_checks.proofs.MarkLemmas.{initial_once, says_once}
use Rattle.pn_checks.proofs.laws.the_initial_marking_is_one.Goals as goal

pub returns : goal.returns
returns c f g m k sound same declared is also =
    initial_once (c.same_counts_same_entries.ensures (λ a b equal. (c.tokens_are_ordered.ensures.equal a b).0 equal)) f g m k
    (says_once f.declarations (λ e o p value more. c.a_term_has_one_value.ensures f.declarations [] [] e o p sound value more)) same declared is also
