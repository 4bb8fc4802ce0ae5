use Rattle.std.proofs.Common.{◌≡◌, ◌∙◌, [], false, true, sym}
use Rattle.pn_facts.proofs.Results.{always, on_ok}
use Rattle.pn_checks.proofs.GroundLemmas.{covers_ground, no_assignment}
use Rattle.pn_checks.proofs.ValueLemmas.{value_gets, value_missing, value_there}
use Rattle.pn_checks.proofs.typing.keep_value.Goals as goal

pub eval-requires-clause-sorted : goal.eval-requires-clause-sorted
eval-requires-clause-sorted c = (c.requires.right.0, c.requires.right.1)

pub eval-requires-clause-assignment : goal.eval-requires-clause-assignment
eval-requires-clause-assignment c = no_assignment c.args.decls.now

pub eval-requires-clause-covers : goal.eval-requires-clause-covers
eval-requires-clause-covers c = covers_ground c.args.decls.now c.args.term.now c.requires.right.0 c.requires.right.1 c.requires.ground

pub returns-then-has_tokens-clause-least : goal.returns-then-has_tokens-clause-least
returns-then-has_tokens-clause-least c =
    let items = c.args.decls.now in
    let e = c.args.term.now in
    always c.put_outcome.result
    (λ p is_sort. value_there items c.args.sort.now e (λ o q a b. c.a_term_has_one_value.ensures items [] [] e o q c.requires.faultless a b) c.in_ok-outcome.outcome c.in_ok-outcome.ensures.value (c.has_tokens.ensures.0 c.if-has_tokens.true) p is_sort c.args.least.now)

pub returns-then-has_tokens-clause-gets : goal.returns-then-has_tokens-clause-gets
returns-then-has_tokens-clause-gets c =
    let items = c.args.decls.now in
    let e = c.args.term.now in
    on_ok c.put_outcome.result
    (λ gets none. value_gets items c.args.sort.now e (λ o q a b. c.a_term_has_one_value.ensures items [] [] e o q c.requires.faultless a b) c.in_ok-outcome.outcome c.in_ok-outcome.ensures.value (c.has_tokens.ensures.0 c.if-has_tokens.true) c.args.number c.args.marking.now c.put_outcome.new.marking gets)
    c.put_outcome.ensures.gets

pub returns-clause-least : goal.returns-clause-least
returns-clause-least c =
    let items = c.args.decls.now in
    let e = c.args.term.now in
    on_ok c.keep_least_at.result
    (λ told p is_sort. value_missing items c.args.sort.now e (λ o q a b. c.a_term_has_one_value.ensures items [] [] e o q c.requires.faultless a b) c.in_ok-outcome.outcome c.in_ok-outcome.ensures.value
    (λ has. let bad : false ≡ true = sym c.if-has_tokens.false ∙ c.has_tokens.ensures.1 has in cc) c.requires.right c.requires.ground p is_sort c.args.least.now c.keep_least_at.new.least told) c.keep_least_at.ensures.lower
