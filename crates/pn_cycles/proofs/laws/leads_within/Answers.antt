use Rattle.pn_cycles.proofs.Ways.{leads_from, leads_to}
use Rattle.pn_cycles.proofs.laws.leads_within.Goals as goal

pub returns-clause-start : goal.returns-clause-start
returns-clause-start c edges start end way = leads_from way

pub returns-clause-end : goal.returns-clause-end
returns-clause-end c edges start end whole way = leads_to whole way
