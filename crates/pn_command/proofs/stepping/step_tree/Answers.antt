use Rattle.pn_documents.proofs.InitialTokenLemmas.{initial_tokens}
use Rattle.pn_command.proofs.stepping.step_tree.Goals as goal

pub step_told-requires : goal.step_told-requires
step_told-requires c = record { initial = λ m is. initial_tokens c.requires.0 c.args.checked.now m c.requires.1.accepted c.requires.1.linked is }

pub marked_tree-requires-clause-tokens : goal.marked_tree-requires-clause-tokens
marked_tree-requires-clause-tokens c =
    let led = c.in-Ok.ensures.led in
    led.tokens (initial_tokens c.requires.0 c.args.checked.now led.initial c.requires.1.accepted c.requires.1.linked led.started.is_initial)
