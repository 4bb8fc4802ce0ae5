use Rattle.pn_modes.proofs.CauseLemmas.{as_many_sorts}
use Rattle.pn_modes.proofs.causes.listed_assignments.Goals as goal

pub few_assignments-requires : goal.few_assignments-requires
few_assignments-requires c = as_many_sorts c.args.net.now c.args.transition c.variables.result.now c.in-Ok.sorts (c.in-Ok.ensures c.variables.result.now c.variables.ensures)
