use Rattle.std.proofs.Common.{◌+◌, ◌≤◌, sym, subst}
use Rattle.pn_bag.specs.Counts.{count_of}
use Rattle.pn_bag.specs.declared.TheConstants.{MAX_COUNT}
use Rattle.pn_net.specs.Orders.{token_cmp}
use Rattle.pn_marking.proofs.PutLemmas.{StillPuts, next_room, token_on}
use Rattle.pn_marking.proofs.tokens.put_all.Goals as goal

pub put-requires : goal.put-requires
put-requires c =
    let place = c.args.place in
    let bag = c.args.bag.now in
    let mid = c.loop-value.marking in
    subst (λ x. count_of token_cmp mid (token_on place x) + c.in-Some.count ≤ MAX_COUNT) (sym c.in_ok-copy.ensures)
    (next_room place bag c.in-Some.value.now c.in-Some.count _ mid (subst (λ r. StillPuts place bag r mid) c.in-Some.ensures.steps c.loop-value.invariant.2) c.iter-value-items.ensures.bag)
