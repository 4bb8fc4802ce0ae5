use Rattle.std.proofs.Common.{◌+◌, ◌<◌, sym, ◌∙◌, subst}
use Rattle.pn_bag.specs.Counts.{count_of}
use Rattle.pn_bag.specs.declared.TheConstants.{MAX_COUNT}
use Rattle.pn_facts.proofs.Results.{if_ok}
use Rattle.pn_net.specs.Orders.{token_cmp}
use Rattle.pn_net.specs.declared.token.Token.{Token}
use Rattle.pn_marking.proofs.TotalLemmas.{same_some_marking}
use Rattle.pn_marking.proofs.totals.both.Goals as goal

pub returns-in-Some-Some-clause-none : goal.returns-in-Some-Some-clause-none
returns-in-Some-Some-clause-none c =
    if_ok _ _ c.joined.result
    (λ o large none a b is also. subst (λ x. (k : Token) × (MAX_COUNT < count_of token_cmp x k + count_of token_cmp b k)) (same_some_marking c.in-Some-Some.sum a (sym c.in-Some-Some.is-0 ∙ is))
    (subst (λ y. (k : Token) × (MAX_COUNT < count_of token_cmp c.in-Some-Some.sum k + count_of token_cmp y k)) (same_some_marking c.in-Some-Some.rest b (sym c.in-Some-Some.is-1 ∙ also)) (large none)))
    c.joined.ensures.none
