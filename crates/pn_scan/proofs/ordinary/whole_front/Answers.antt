use Rattle.std.proofs.Common.{◌-◌, length, refl}
use Rattle.pn_scan.proofs.OrdinaryLemmas.{within_on, whole_next}
use Rattle.pn_scan.proofs.ordinary.whole_front.Goals as goal

pub loop-at-preserved : goal.loop-at-preserved
loop-at-preserved c =
    let xs = c.args.piece.now in
    let at = c.loop-at.at in
    let n = c.character_front-size.result in
    record {
      within = within_on xs at (length xs - at) n refl c.loop-at.invariant.within c.character_front-size.ensures.within;
      whole = whole_next xs at n (length xs - at) refl c.loop-at.invariant.whole c.if-size-eq0.false c.character_front-size.ensures.whole;
    }
