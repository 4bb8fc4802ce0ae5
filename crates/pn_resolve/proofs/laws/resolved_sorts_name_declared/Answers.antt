use Rattle.pn_resolve.proofs.NamingLemmas.{resolved_declared}
use Rattle.pn_resolve.proofs.laws.resolved_sorts_name_declared.Goals as goal

pub returns : goal.returns
returns c = resolved_declared
