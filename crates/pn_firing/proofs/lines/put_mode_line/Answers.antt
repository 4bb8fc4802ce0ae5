use Rattle.std.proofs.Common.{[], ◌∷◌, ap}
use Rattle.pn_outside.proofs.TakingLemmas.{puts_then, puts_stop}
use Rattle.pn_tree.proofs.PutLemmas.{puts_as}
use Rattle.pn_firing.specs.Lines.{mode_line}
use Rattle.pn_mode_text.proofs.OneTextLemmas.{mode_text_once}
use Rattle.pn_firing.proofs.lines.put_mode_line.Goals as goal

pub returns-in_err-put_mode-clause-puts : goal.returns-in_err-put_mode-clause-puts
returns-in_err-put_mode-clause-puts g c = λ text is.
    let r = c.from_residual.result in
    let p = c.in_err-put_mode.ensures.puts in
    puts_as _ _ _ _ r (ap mode_line (mode_text_once c.args.net.now c.args.mode.now p.0 text p.1 is)) (puts_stop _ _ _ _ (10 ∷ []) r c.from_residual.ensures.0 p.2.front)

pub returns-clause-puts : goal.returns-clause-puts
returns-clause-puts g c = λ text is.
    let r = c.put_text.result in
    let p = c.in_ok-put_mode.ensures.puts in
    puts_as _ _ _ _ r (ap mode_line (mode_text_once c.args.net.now c.args.mode.now p.0 text p.1 is)) (puts_then _ _ _ _ _ r p.2.all c.put_text.ensures.puts)
