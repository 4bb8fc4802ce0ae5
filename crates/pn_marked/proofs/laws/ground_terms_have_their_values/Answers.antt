use Rattle.pn_marked.proofs.GroundLemmas.{ground_is}
use Rattle.pn_marked.proofs.laws.ground_terms_have_their_values.Goals as goal

pub returns : goal.returns
returns c = λ items s v distinct names sound member. ground_is items distinct s names sound v member
