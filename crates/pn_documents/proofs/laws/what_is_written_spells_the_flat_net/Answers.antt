use Rattle.pn_documents.proofs.WrittenLemmas.{written}
use Rattle.pn_documents.proofs.laws.what_is_written_spells_the_flat_net.Goals as goal

pub returns : goal.returns
returns c = written
