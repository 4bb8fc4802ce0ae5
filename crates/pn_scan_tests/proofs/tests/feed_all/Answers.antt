use Rattle.std.proofs.Common.{◌++◌}
use Rattle.pn_scan_tests.proofs.tests.feed_all.Goals as goal

pub loop-piece-preserved : goal.loop-piece-preserved
loop-piece-preserved c = let before = c.loop-piece.invariant in (before.0 ++ c.in-Some.piece.now, c.feed.ensures.read before.0 before.1)

pub returns-in_err-feed : goal.returns-in_err-feed
returns-in_err-feed c = let before = c.loop-piece.invariant in (before.0 ++ c.in-Some.piece.now, c.feed.ensures.read before.0 before.1)
