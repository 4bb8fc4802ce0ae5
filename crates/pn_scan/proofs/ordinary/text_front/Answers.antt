use Rattle.pn_scan.proofs.OrdinaryLemmas.{text_slice}
use Rattle.pn_scan.proofs.ordinary.text_front.Goals as goal

pub returns-in-Zero-clause-slice : goal.returns-in-Zero-clause-slice
returns-in-Zero-clause-slice c =
    text_slice c.args.brackets c.args.cr c.args.piece.now c.text_count.result c.with_high.result c.in-Zero.is c.if-cr.false c.text_count.ensures.value c.with_high.ensures.slice
