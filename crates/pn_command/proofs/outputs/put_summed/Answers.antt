use Rattle.std.proofs.Common.{refl, ap, ◌∙◌, subst}
use Rattle.pn_outside.specs.Taking.{Puts}
use Rattle.pn_report.specs.Summaries.{summary_line}
use Rattle.pn_command.proofs.OutputLemmas.{one_sum}
use Rattle.pn_command.proofs.outputs.put_summed.Goals as goal

pub returns-clause-puts : goal.returns-clause-puts
returns-clause-puts g c text summed =
    let m = c.initial.result.now in
    let line = summary_line c.args.checked.now m in
    subst (λ x. Puts g.K.Sink.taken g.K.Sink.number c.put_summary.result c.args.sink.now c.put_summary.new.sink x)
    (ap (λ f. summary_line f m) c.typed.ensures ∙ one_sum c.args.checked.now line text c.has_sound_declarations.ensures (record { initial = m; is_initial = c.initial.ensures; is = refl }) summed) c.put_summary.ensures.puts
