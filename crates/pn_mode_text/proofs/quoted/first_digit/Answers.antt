use Rattle.std.proofs.Common.{sym, ◌∙◌}
use Rattle.std.proofs.lemmas.Bool.{false≢true}
use Rattle.pn_mode_text.proofs.QuotedLemmas.{first_begins}
use Rattle.pn_mode_text.proofs.quoted.first_digit.Goals as goal

pub returns : goal.returns
returns c = λ more h. false≢true (sym c.if-begins_escape.false ∙ c.begins_escape.ensures.1 (first_begins c.args.byte more h))
