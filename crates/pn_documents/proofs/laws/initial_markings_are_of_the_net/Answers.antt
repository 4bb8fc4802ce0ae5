use Rattle.pn_documents.proofs.InitialTokenLemmas.{initial_tokens}
use Rattle.pn_documents.proofs.laws.initial_markings_are_of_the_net.Goals as goal

pub returns : goal.returns
returns c = initial_tokens
