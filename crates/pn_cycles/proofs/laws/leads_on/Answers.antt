use Rattle.pn_cycles.proofs.Ways.{leads_on}
use Rattle.pn_cycles.proofs.laws.leads_on.Goals as goal

pub returns : goal.returns
returns c edges first second third way rest = leads_on way rest
