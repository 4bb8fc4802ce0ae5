use Rattle.pn_cycles.proofs.Taking.{due_at_will}
use Rattle.pn_cycles.proofs.search.Search.explore.Goals as goal

pub open-requires-clause-search : goal.open-requires-clause-search
open-requires-clause-search c = due_at_will _ _ _ _ _ _ _ _ c.requires.search
