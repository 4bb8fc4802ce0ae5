use Rattle.std.proofs.Common.{sym, subst, rules}
use Rattle.pn_marking.specs.Flows.{AreInOrder, AreTokens}
use Rattle.pn_marking.proofs.MoveLemmas.{order_of_tokens}
use Rattle.pn_marking.proofs.flows.flows_of.Goals as goal

pub returns-clause-order : goal.returns-clause-order
returns-clause-order c =
    let tokens : AreTokens c.args.side c.args.times c.args.tokens.now c.loop-token.flows.items = search rules in
    subst AreInOrder (sym tokens) (order_of_tokens c.args.side c.args.times c.args.tokens.now c.iter-token-items.ensures.bag.rising)
