use Rattle.std.proofs.Common.{◌+◌, ◌≤◌, sym, subst}
use Rattle.pn_bag.specs.Counts.{count_of}
use Rattle.pn_bag.specs.declared.TheConstants.{MAX_COUNT}
use Rattle.pn_net.specs.Orders.{token_cmp}
use Rattle.pn_checks.specs.Initial.{token}
use Rattle.pn_checks.specs.Tokens.{StillGets}
use Rattle.pn_checks.proofs.TokenLemmas.{next_fits}
use Rattle.pn_checks.proofs.tokens.put_all.Goals as goal

pub put-requires : goal.put-requires
put-requires c =
    let place = c.args.place in
    let bag = c.args.bag.now in
    let old = c.args.marking.now in
    let mid = c.loop-value.marking in
    subst (λ x. count_of token_cmp mid (token place x) + c.in-Some.count ≤ MAX_COUNT) (sym c.in_ok-copy.ensures)
    (next_fits place bag c.in-Some.value.now c.in-Some.count _ old mid (subst (λ r. StillGets place bag r old mid) c.in-Some.ensures.steps c.loop-value.invariant.2) c.iter-value-items.ensures.bag c.requires)
