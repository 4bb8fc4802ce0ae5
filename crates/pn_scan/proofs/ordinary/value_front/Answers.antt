use Rattle.pn_scan.proofs.OrdinaryLemmas.{value_slice}
use Rattle.pn_scan.proofs.ordinary.value_front.Goals as goal

pub returns-clause-slice : goal.returns-clause-slice
returns-clause-slice c = value_slice c.args.quote c.args.cr c.args.piece.now c.value_count.result c.with_high.result c.if-cr.false c.value_count.ensures.value c.with_high.ensures.slice
