use Rattle.pn_lines.proofs.TextLemmas.{escaped_tells}
use Rattle.pn_lines.proofs.laws.escaped_texts_tell_apart.Goals as goal

pub returns : goal.returns
returns c = λ one two first second. escaped_tells one two
