use Rattle.pn_documents.proofs.WrittenLemmas.{written_of}
use Rattle.pn_documents.proofs.laws.what_is_written_spells_its_net.Goals as goal

pub returns : goal.returns
returns c = written_of
