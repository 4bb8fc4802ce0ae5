use Rattle.pn_flat_laws.proofs.ReadBackLemmas.{read_back}
use Rattle.pn_flat_laws.proofs.laws.what_is_read_back_is_alike.Goals as goal

pub returns : goal.returns
returns c = read_back
