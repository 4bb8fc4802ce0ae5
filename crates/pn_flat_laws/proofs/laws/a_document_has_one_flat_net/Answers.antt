use Rattle.pn_flat_laws.proofs.OneFlatLemmas.{one_flat}
use Rattle.pn_flat_laws.proofs.laws.a_document_has_one_flat_net.Goals as goal

pub returns : goal.returns
returns c = one_flat
