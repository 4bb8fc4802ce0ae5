use Rattle.std.proofs.Common.{◌++◌}
use Rattle.pn_scan_tests.proofs.tests.breaks_at_five.Goals as goal

pub returns : goal.returns
returns c = let before = c.requires in (before.0 ++ c.args.piece.now, c.feed.ensures.read before.0 before.1)
