use Rattle.std.proofs.Common.{rules}
use Rattle.pn_cycles.proofs.Beginning.{begins}
use Rattle.pn_cycles.proofs.search.Search.new.Goals as goal

pub returns-clause-search : goal.returns-clause-search
returns-clause-search c = begins c.args.graph.now c.len-count.result _ _ _ _ _ _ c.len-count.ensures (search rules) c.new.ensures.items c.new-2.ensures.items c.new-3.ensures.items c.new-4.ensures.items (search rules)
