use Rattle.pn_names.proofs.DeclaredLemmas.{declared_found}
use Rattle.pn_names.proofs.laws.declared_is_named.Goals as goal

pub returns : goal.returns
returns c = declared_found
