use Rattle.std.proofs.Common.{refl}
use Rattle.pn_report.specs.Summaries.{summary_line}
use Rattle.pn_command.proofs.outputs.summary.Goals as goal

pub returns-clause-summed : goal.returns-clause-summed
returns-clause-summed c = (summary_line c.args.checked c.initial-marking.result.now, record { initial = c.initial-marking.result.now; is_initial = c.initial-marking.ensures; is = refl })
