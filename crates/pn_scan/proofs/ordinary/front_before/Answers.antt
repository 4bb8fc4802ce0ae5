use Rattle.pn_scan.proofs.OrdinaryLemmas.{but_slice}
use Rattle.pn_scan.proofs.ordinary.front_before.Goals as goal

pub returns-clause-slice : goal.returns-clause-slice
returns-clause-slice c =
    but_slice c.args.mark c.args.behind c.args.piece.now c.count_before.result c.with_high.result c.if-behind.false c.count_before.ensures.value c.with_high.ensures.slice
