use Rattle.pn_lines.proofs.TextLemmas.{escaped_is_clean}
use Rattle.pn_lines.proofs.laws.escaped_texts_are_clean.Goals as goal

pub returns : goal.returns
returns c = λ text bytes. escaped_is_clean text
