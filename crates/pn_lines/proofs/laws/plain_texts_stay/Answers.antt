use Rattle.pn_lines.proofs.TextLemmas.{plain_text_stays}
use Rattle.pn_lines.proofs.laws.plain_texts_stay.Goals as goal

pub returns : goal.returns
returns c = plain_text_stays
