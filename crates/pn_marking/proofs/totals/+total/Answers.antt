use Rattle.std.proofs.Common.{◌/◌, length, rules}
use Rattle.pn_facts.proofs.Results.{if_ok}
use Rattle.pn_marking.proofs.KnownLemmas.{arcs_halved, in_first, in_second}
use Rattle.pn_marking.proofs.TotalLemmas.{both_none, both_some}
use Rattle.pn_marking.proofs.totals.+total.Goals as goal

pub total-requires : goal.total-requires
total-requires t c = (search rules, (λ n has. c.requires.known n (in_first (length c.args.numbers.now / 2) c.args.numbers.now n has), c.requires.assignment))

pub total-requires-2 : goal.total-requires-2
total-requires-2 t c = (search rules, (λ n has. c.requires.known n (in_second (length c.args.numbers.now / 2) c.args.numbers.now n has), c.requires.assignment))

pub returns-clause-some : goal.returns-clause-some
returns-clause-some t c =
    if_ok _ _ c.both.result
    (λ o is. both_some c.args.net.now c.args.vars.now c.args.values.now _ _ _ (arcs_halved c.args.net.now c.args.into (length c.args.numbers.now / 2) c.args.numbers.now) c.in_ok-left.left c.in_ok-right.right c.in_ok-left.ensures.some c.in_ok-right.ensures.some o is)
    c.both.ensures.some

pub returns-clause-none : goal.returns-clause-none
returns-clause-none t c =
    if_ok _ _ c.both.result
    (λ o large none. both_none c.args.net.now c.args.vars.now c.args.values.now _ _ _ (arcs_halved c.args.net.now c.args.into (length c.args.numbers.now / 2) c.args.numbers.now) (c.gives_one.ensures c.args.vars.now c.args.values.now)
    c.in_ok-left.left c.in_ok-right.right c.in_ok-left.ensures.some c.in_ok-left.ensures.none c.in_ok-right.ensures.some c.in_ok-right.ensures.none (large none))
    c.both.ensures.none
