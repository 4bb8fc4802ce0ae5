use Rattle.pn_scan.specs.Ordinary.{is_high}
use Rattle.pn_scan.proofs.OrdinaryLemmas.{wide_slice}
use Rattle.pn_scan.proofs.ordinary.high_front.Goals as goal

pub returns-clause-slice : goal.returns-clause-slice
returns-clause-slice c = wide_slice is_high c.args.piece.now c.high_count.result c.whole_front.result c.high_count.ensures.value c.whole_front.ensures.within c.whole_front.ensures.whole
