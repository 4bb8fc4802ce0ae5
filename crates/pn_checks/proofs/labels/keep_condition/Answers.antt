use Rattle.std.proofs.Common.{codes}
use Rattle.pn_facts.proofs.Results.{always}
use Rattle.pn_checks.specs.LabelFaults.{IsTruth}
use Rattle.pn_checks.proofs.LabelLemmas.{judged_none, judged_some, on_both}
use Rattle.pn_checks.proofs.SortedLemmas.{sorted_none, sorted_some}
use Rattle.pn_checks.proofs.labels.keep_condition.Goals as goal

pub returns-in-Some-clause-least : goal.returns-in-Some-clause-least
returns-in-Some-clause-least c =
    on_both c.keep_unless.result
    (λ same more. (judged_some c.args.decls.now c.args.term.now IsTruth (codes "condition") c.in_ok-sort.field-0 c.in-Some.sort c.is_truth.result c.args.least.now c.keep_term.new.least c.keep_unless.new.least
    c.in-Some.is c.in_ok-sort.ensures c.is_truth.ensures same more).least) c.keep_unless.ensures.right c.keep_unless.ensures.wrong

pub returns-in-None-clause-least : goal.returns-in-None-clause-least
returns-in-None-clause-least c = (judged_none c.args.decls.now c.args.term.now IsTruth (codes "condition") c.in_ok-sort.field-0 c.args.least.now c.keep_term.new.least c.in-None.is c.in_ok-sort.ensures).least

pub returns-in-Some-clause-sorted : goal.returns-in-Some-clause-sorted
returns-in-Some-clause-sorted c =
    always c.keep_unless.result (λ none. sorted_some c.args.decls.now c.args.term.now c.in_ok-sort.field-0 c.in-Some.sort c.args.least.now c.keep_term.new.least c.in-Some.is c.in_ok-sort.ensures)

pub returns-in-None-clause-sorted : goal.returns-in-None-clause-sorted
returns-in-None-clause-sorted c none = sorted_none c.args.decls.now c.args.term.now c.in_ok-sort.field-0 c.args.least.now c.keep_term.new.least c.in-None.is c.in_ok-sort.ensures none
