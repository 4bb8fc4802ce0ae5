use Rattle.pn_scan.proofs.FedLemmas.{fed_document, document_fed}
use Rattle.pn_scan.proofs.laws.ends_are_documents.Goals as goal

pub returns : goal.returns
returns c = record { document = fed_document; end = document_fed }
