use Rattle.std.proofs.Common.{IfSome, sym, subst}
use Rattle.pn_facts.proofs.Results.{on_ok}
use Rattle.pn_eval.specs.Outcomes.{multiset_of}
use Rattle.pn_checks.specs.Tokens.{Gets}
use Rattle.pn_checks.proofs.TokenLemmas.{added_gets, added_others}
use Rattle.pn_checks.proofs.tokens.put_outcome.Goals as goal

pub returns-in-Value-clause-gets : goal.returns-in-Value-clause-gets
returns-in-Value-clause-gets c =
    on_ok c.put.result
    (λ added. subst (λ o. IfSome (multiset_of o) (λ bag. Gets c.args.place bag c.args.marking.now c.put.new.marking)) (sym c.in-Value.is) (added_gets c.args.place c.args.marking.now c.put.new.marking c.in-Value.value 1 added)) c.put.ensures

pub returns-in-Value-clause-others : goal.returns-in-Value-clause-others
returns-in-Value-clause-others c = on_ok c.put.result (λ added. added_others c.args.place c.args.marking.now c.put.new.marking c.in-Value.value 1 added) c.put.ensures
