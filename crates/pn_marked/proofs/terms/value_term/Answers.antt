use Rattle.pn_facts.proofs.Results.{if_ok}
use Rattle.pn_values.specs.Kin.{kin_of}
use Rattle.pn_marked.proofs.GroundLemmas.{ground_is}
use Rattle.pn_marked.specs.Ground.{IsTermOf}
use Rattle.std.proofs.Common.{subst, sym}
use Rattle.pn_marked.proofs.terms.value_term.Goals as goal

pub returns-clause-exact : goal.returns-clause-exact
returns-clause-exact c distinct =
    if_ok _ _ c.term_of.result
    (λ e is. subst (IsTermOf c.args.decls.now (kin_of c.args.sort.now) c.args.value.now) (sym is) (ground_is c.args.decls.now distinct c.args.sort.now c.requires.declared c.requires.sound c.args.value.now c.requires.member)) c.term_of.ensures
