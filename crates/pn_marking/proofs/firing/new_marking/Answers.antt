use Rattle.std.proofs.Common.{◌≡◌, ◌+◌, ◌≤◌, sym, subst}
use Rattle.pn_bag.specs.Counts.{count_in, count_of}
use Rattle.pn_bag.specs.declared.TheConstants.{MAX_COUNT}
use Rattle.pn_net.specs.Orders.{token_cmp}
use Rattle.pn_net.specs.declared.token.Token.{Token}
use Rattle.pn_marking.proofs.FireLemmas.{fits_next, left_next}
use Rattle.pn_marking.proofs.firing.new_marking.Goals as goal

pub put-requires : goal.put-requires
put-requires c =
    subst (λ t. count_of token_cmp c.loop-flow.marking t + c.left_of.result ≤ MAX_COUNT) (sym c.in_ok-copy.ensures)
    (fits_next c.args.flows.now c.loop-flow.flow-index c.flow-item.result c.left_of.result c.loop-flow.marking c.requires.order c.requires.enough c.requires.room c.loop-flow-test.true c.flow-item.is c.left_of.ensures c.loop-flow.invariant)

pub loop-flow-preserved : goal.loop-flow-preserved
loop-flow-preserved c =
    left_next c.args.flows.now c.loop-flow.flow-index c.flow-item.result c.left_of.result c.loop-flow.marking c.requires.order c.requires.enough c.requires.room c.loop-flow-test.true c.flow-item.is c.left_of.ensures c.loop-flow.invariant c.put.new.marking
    (subst (λ t. (k : Token) → count_of token_cmp c.put.new.marking k ≡ count_of token_cmp c.loop-flow.marking k + count_in token_cmp (t, c.left_of.result) k) c.in_ok-copy.ensures c.in_ok-put.ensures)
