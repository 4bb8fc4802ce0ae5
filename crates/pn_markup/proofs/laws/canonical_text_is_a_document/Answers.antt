use Rattle.pn_markup.proofs.DocumentLemmas.{canonical_spells}
use Rattle.pn_markup.proofs.laws.canonical_text_is_a_document.Goals as goal

pub returns : goal.returns
returns c = canonical_spells
