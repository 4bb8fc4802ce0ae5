use Rattle.pn_names.proofs.DeclaredLemmas.{found_declared}
use Rattle.pn_names.proofs.laws.named_is_declared.Goals as goal

pub returns : goal.returns
returns c = found_declared
