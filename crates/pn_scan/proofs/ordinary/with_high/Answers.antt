use Rattle.std.proofs.Common.{◌-◌, length, refl}
use Rattle.pn_scan.proofs.OrdinaryLemmas.{high_slice}
use Rattle.pn_scan.proofs.ordinary.with_high.Goals as goal

pub returns-then-piece-size-ge128-clause-slice : goal.returns-then-piece-size-ge128-clause-slice
returns-then-piece-size-ge128-clause-slice c passes low =
    let xs = c.args.piece.now in high_slice passes xs c.args.size c.high_front.result (length xs - c.args.size) refl c.high_front.ensures.slice low
