use Rattle.pn_operations.proofs.CountLemmas.{tested_includes}
use Rattle.pn_operations.proofs.multisets.includes.Goals as goal

pub returns : goal.returns
returns c = tested_includes c.includes.result c.args.whole.now c.args.part.now c.includes.ensures
