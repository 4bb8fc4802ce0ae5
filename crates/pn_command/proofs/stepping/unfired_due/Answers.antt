use Rattle.std.proofs.Common.{map, string_bytes}
use Rattle.pn_command.proofs.AnswerLemmas.{unfired_said}
use Rattle.pn_command.proofs.stepping.unfired_due.Goals as goal

pub returns : goal.returns
returns c f is = unfired_said (map string_bytes c.args.words.now) f c.args.refusal c.in_ok-unfired_line.field-0 is c.in_ok-unfired_line.ensures
