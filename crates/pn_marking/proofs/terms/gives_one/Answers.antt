use Rattle.pn_marking.proofs.terms.gives_one.Goals as goal

pub returns : goal.returns
returns c vars values e o p value more = c.a_term_has_one_value.ensures c.args.net.now.declarations vars values e o p c.decls-decls.ensures.faultless value more
