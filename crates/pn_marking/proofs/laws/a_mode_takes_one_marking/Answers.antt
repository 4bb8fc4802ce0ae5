use Rattle.std.proofs.Common.{true, false}
use Rattle.pn_marking.proofs.OnceLemmas.{one_marking}
use Rattle.pn_marking.proofs.laws.a_mode_takes_one_marking.Goals as goal

pub returns-clause-takes : goal.returns-clause-takes
returns-clause-takes c f mode a b sound (vars, are, moved) (others, also, more) =
    one_marking (c.same_counts_same_entries.ensures (λ x y equal. (c.tokens_are_ordered.ensures.equal x y).0 equal)) f mode.transition false mode.values vars others
    (λ e o p value same. c.a_term_has_one_value.ensures f.declarations vars mode.values e o p sound value same) are also a b moved more

pub returns-clause-puts : goal.returns-clause-puts
returns-clause-puts c f mode a b sound (vars, are, moved) (others, also, more) =
    one_marking (c.same_counts_same_entries.ensures (λ x y equal. (c.tokens_are_ordered.ensures.equal x y).0 equal)) f mode.transition true mode.values vars others
    (λ e o p value same. c.a_term_has_one_value.ensures f.declarations vars mode.values e o p sound value same) are also a b moved more
