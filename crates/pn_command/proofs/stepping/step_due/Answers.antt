use Rattle.std.proofs.Common.{map, string_bytes, subst}
use Rattle.pn_command.proofs.AnswerLemmas.{stepped_said}
use Rattle.pn_command.specs.Outputs.{IsStepTree}
use Rattle.pn_command.specs.Words.{arguments_of}
use Rattle.pn_stepping.specs.Refusing.{IsRefusedStep}
use Rattle.pn_command.proofs.stepping.step_due.Goals as goal

pub unfired_due-requires : goal.unfired_due-requires
unfired_due-requires c = (c.args.checked, subst (λ ws. IsRefusedStep c.args.checked ws c.in-Err.refusal) c.arguments.ensures c.in-Err.ensures.refused)

pub returns-in-Ok : goal.returns-in-Ok
returns-in-Ok c =
    let words = map string_bytes c.args.words.now in
    stepped_said words c.args.checked c.in-Ok.tree c.text_due.result (subst (λ ws. IsStepTree c.args.checked ws c.in-Ok.tree) c.arguments.ensures c.in-Ok.ensures.led) c.text_due.ensures

pub returns-in-Err : goal.returns-in-Err
returns-in-Err c = c.unfired_due.ensures c.args.checked (subst (λ ws. IsRefusedStep c.args.checked ws c.in-Err.refusal) c.arguments.ensures c.in-Err.ensures.refused)
