use Rattle.pn_marked.proofs.BagTermLemmas.{bag_term_is}
use Rattle.pn_marked.proofs.GroundLemmas.{ground_is}
use Rattle.pn_marked.proofs.laws.bag_terms_have_their_multisets.Goals as goal

pub returns : goal.returns
returns c = λ items s bag e distinct names sound is members there. bag_term_is items s (ground_is items distinct s names sound) bag e is members there
