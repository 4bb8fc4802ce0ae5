use Rattle.pn_markup.proofs.OrderLemmas.{document_rises}
use Rattle.pn_markup.proofs.laws.offsets_rise.Goals as goal

pub returns : goal.returns
returns c = document_rises
