use Rattle.std.proofs.Common.{◌≡◌, Some, ap, sym, ◌∙◌, subst}
use Rattle.pn_facts.proofs.Results.{on_ok}
use Rattle.pn_net.specs.Labels.{said}
use Rattle.pn_values.specs.declared.value.Value.TheVariants as values
use Rattle.pn_checks.specs.Tokens.{Gets, number_tokens}
use Rattle.pn_checks.proofs.TokenLemmas.{added_gets, added_others}
use Rattle.pn_checks.proofs.tokens.put_number.Goals as goal

pub returns-in-Some-clause-gets : goal.returns-in-Some-clause-gets
returns-in-Some-clause-gets c =
    let is : said c.args.number.now ≡ Some c.get.result.now.value = ap said c.in-Some.is ∙ ap (λ l. Some l.value) (sym c.get.ensures) in
    on_ok c.put.result
    (λ added. subst (λ o. Gets c.args.place (number_tokens o) c.args.marking.now c.put.new.marking) (sym is) (added_gets c.args.place c.args.marking.now c.put.new.marking values.Dot c.get.result.now.value added)) c.put.ensures

pub returns-in-Some-clause-others : goal.returns-in-Some-clause-others
returns-in-Some-clause-others c = on_ok c.put.result (λ added. added_others c.args.place c.args.marking.now c.put.new.marking values.Dot c.get.result.now.value added) c.put.ensures
