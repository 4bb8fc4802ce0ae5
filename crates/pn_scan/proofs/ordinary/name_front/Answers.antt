use Rattle.pn_scan.proofs.OrdinaryLemmas.{name_slice}
use Rattle.pn_scan.proofs.ordinary.name_front.Goals as goal

pub returns-clause-slice : goal.returns-clause-slice
returns-clause-slice c = name_slice c.args.piece.now c.name_count.result c.with_high.result c.name_count.ensures.value c.with_high.ensures.slice
