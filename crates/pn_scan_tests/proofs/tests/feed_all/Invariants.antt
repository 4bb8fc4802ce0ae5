use Rattle.std.proofs.Common.{ℕ, List}
use Rattle.pn_scan.specs.Reading.{HasRead}
use Rattle.pn_scan_tests.proofs.tests.feed_all.Given as goal

abbrev pub invariant-loop-piece : goal.invariant-loop-piece
invariant-loop-piece l = (b : List ℕ) × HasRead l.scanner b
