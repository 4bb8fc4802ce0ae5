use Rattle.std.proofs.Common.{◌≤◌, ℕ, List, sym, refl, subst}
use Rattle.pn_bag.specs.Counts.{Every, count_of}
use Rattle.pn_bag.proofs.Walking.{includes_by_entries}
use Rattle.pn_net.specs.Orders.{token_cmp, tokens_total}
use Rattle.pn_net.specs.declared.token.Token.{Token}
use Rattle.pn_modes.proofs.fronts.has_all.Goals as goal

pub returns : goal.returns
returns c =
    let met : (List (Token × ℕ)) → Type 0 = Every (λ entry. entry.1 ≤ count_of token_cmp c.args.marking.now entry.0) in
    (λ is. includes_by_entries tokens_total c.args.marking.now c.args.tokens.now c.iter-token-items.ensures.bag.rising (c.loop-token.invariant.2 (subst met (sym c.in-None.ensures.steps.0) tt)), λ has. refl)
