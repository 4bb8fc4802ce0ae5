use Rattle.pn_terms.proofs.WalkLemmas.{if_ok_more}
use Rattle.pn_eval.proofs.KeepLemmas.{value_keeps}
use Rattle.pn_eval.proofs.walk.eval.Goals as goal

pub returns-clause-member : goal.returns-clause-member
returns-clause-member c s has = if_ok_more c.walk.result _ _ (λ o value. value_keeps c.args.decls.now c.args.vars.now c.args.values.now c.requires.assignment c.args.term.now s o has value) c.walk.ensures
