use Rattle.std.proofs.Common.{◌<◌, ◌≤◌}
use Rattle.pn_bag.specs.declared.TheConstants.{MAX_COUNT}
use Rattle.pn_marking.specs.Totals.{IsTokenOf}
use Rattle.pn_marked.proofs.MarkedLemmas.{rest_every, terms_next}
use Rattle.pn_marked.proofs.marked.terms_on.Goals as goal

pub loop-token-preserved : goal.loop-token-preserved
loop-token-preserved c = (
  tt,
  tt,
  terms_next c.args.net.now c.args.marking.now c.loop-token.token-iterator c.next.new.self c.in-Some.token.now c.in-Some.count c.in_ok-term.term c.loop-token.terms.items c.add_term.new.terms.items c.in-Some.ensures.steps c.loop-token.invariant.2 c.in_ok-term.ensures c.in_ok-add_term.ensures,
  rest_every (λ entry. IsTokenOf c.args.net.now entry.0) c.loop-token.token-iterator c.next.new.self (c.in-Some.token.now, c.in-Some.count) c.in-Some.ensures.steps c.loop-token.invariant.3,
  rest_every (λ entry. (0 < entry.1) × (entry.1 ≤ MAX_COUNT)) c.loop-token.token-iterator c.next.new.self (c.in-Some.token.now, c.in-Some.count) c.in-Some.ensures.steps c.loop-token.invariant.4,
)
