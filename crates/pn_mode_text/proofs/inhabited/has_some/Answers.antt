use Rattle.pn_mode_text.proofs.InhabitedLemmas.{count_tells}
use Rattle.pn_mode_text.proofs.inhabited.has_some.Goals as goal

pub returns : goal.returns
returns c = count_tells c.args.decls.now c.args.sort.now c.in-Finite.count c.requires c.in-Finite.ensures
