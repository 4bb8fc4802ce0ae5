use Rattle.pn_marking.proofs.TermLemmas.{stands_for_none}
use Rattle.pn_marking.proofs.terms.term_bag.Goals as goal

pub returns-in-NoValue-clause-none : goal.returns-in-NoValue-clause-none
returns-in-NoValue-clause-none c none bag stands =
    stands_for_none c.args.net.now.declarations c.args.vars.now c.args.values.now (c.gives_one.ensures c.args.vars.now c.args.values.now) c.args.term.now c.in_ok-value.field-0 c.in_ok-value.ensures c.in-NoValue.is bag stands
