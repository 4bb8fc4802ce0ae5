use Rattle.pn_scan.proofs.OrdinaryLemmas.{space_slice}
use Rattle.pn_scan.proofs.ordinary.space_front.Goals as goal

pub returns-then-spaced-clause-slice : goal.returns-then-spaced-clause-slice
returns-then-spaced-clause-slice c = space_slice c.args.spaced c.args.piece.now c.space_count.result c.if-spaced.true c.space_count.ensures.value
