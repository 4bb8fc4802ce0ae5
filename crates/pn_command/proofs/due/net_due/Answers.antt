use Rattle.std.proofs.Common.{map, string_bytes, sym, subst}
use Rattle.std.proofs.lemmas.Result.{IfOk-weaker}
use Rattle.pn_command.specs.Answer.{IsDueForNet, IsModesDue, SaysSuch}
use Rattle.pn_command.specs.declared.due.Due.TheVariants as due
use Rattle.pn_command.specs.declared.words.Asked.TheVariants.{Check}
use Rattle.pn_command.proofs.AnswerLemmas.{flat_said, modes_said, summary_said}
use Rattle.pn_command.proofs.due.net_due.Goals as goal

pub returns-in-Check : goal.returns-in-Check
returns-in-Check c =
    let words = map string_bytes c.args.words.now in
    let f = c.args.checked in
    subst (λ a. SaysSuch (IsDueForNet a words f) (due.Output c.summary.result)) (sym c.in-Check.is)
    (subst (λ o. SaysSuch (IsDueForNet Check words f) (due.Output o)) (sym c.summary.ensures.is) (summary_said words f c.summary.ensures.summed))

pub returns-in-Flatten : goal.returns-in-Flatten
returns-in-Flatten c =
    let words = map string_bytes c.args.words.now in
    let f = c.args.checked in
    IfOk-weaker c.flat_due.result _ _ (λ d is. subst (λ a. SaysSuch (IsDueForNet a words f) d) (sym c.in-Flatten.is) (flat_said words f d is)) c.flat_due.ensures

pub returns-in-Modes : goal.returns-in-Modes
returns-in-Modes c =
    let words = map string_bytes c.args.words.now in
    let f = c.args.checked in
    IfOk-weaker c.list_modes.result _ _ (λ d is.
    subst (λ a. SaysSuch (IsDueForNet a words f) d) (sym c.in-Modes.is) (modes_said words f d (subst (λ id. IsModesDue f id d) c.argument.ensures is)))
    c.list_modes.ensures

pub flat_due-requires : goal.flat_due-requires
flat_due-requires c = (c.requires.accepted.0, c.requires.accepted.1.linked)

pub returns-in-Step : goal.returns-in-Step
returns-in-Step c =
    let words = map string_bytes c.args.words.now in
    IfOk-weaker c.step_due.result _ _ (λ d said. subst (λ a. SaysSuch (IsDueForNet a words c.args.checked) d) (sym c.in-Step.is) said) c.step_due.ensures
