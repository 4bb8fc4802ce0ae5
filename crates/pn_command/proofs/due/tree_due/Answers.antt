use Rattle.std.proofs.Common.{map, string_bytes, refl, subst}
use Rattle.std.proofs.lemmas.Result.{IfOk-weaker}
use Rattle.pn_command.specs.Answer.{for_net, refusal_answer}
use Rattle.pn_command.specs.Verdict.{IsVerdict}
use Rattle.pn_command.proofs.AnswerLemmas.{refused_due, said_status_of_net}
use Rattle.pn_command.proofs.due.tree_due.Goals as goal

pub returns-in-Accepted-clause-due : goal.returns-in-Accepted-clause-due
returns-in-Accepted-clause-due c =
    let taken = subst (IsVerdict c.args.tree.now) c.in-Accepted.is c.in_ok-checked.ensures.verdict in
    IfOk-weaker c.net_due.result _ _ (λ d due rises. (due.0, due.1, for_net c.in-Accepted.checked taken due.2)) c.net_due.ensures

pub returns-in-Refused-clause-due : goal.returns-in-Refused-clause-due
returns-in-Refused-clause-due c = λ rises.
    (refusal_answer c.in-Refused.refusal, refl, refused_due c.args.asked (map string_bytes c.args.words.now) c.args.tree.now c.in-Refused.refusal (subst (IsVerdict c.args.tree.now) c.in-Refused.is c.in_ok-checked.ensures.verdict) rises)

pub returns-in-Accepted-clause-asked : goal.returns-in-Accepted-clause-asked
returns-in-Accepted-clause-asked c =
    IfOk-weaker c.net_due.result _ _ (λ d said. said_status_of_net c.args.asked (map string_bytes c.args.words.now) c.in-Accepted.checked d said) c.net_due.ensures
