use Rattle.std.proofs.Common.{ℕ, List}
use Rattle.pn_scan.specs.Reading.{HasRead}
use Rattle.pn_count.proofs.feed_all.Given as goal

abbrev pub invariant-loop : goal.invariant-loop
invariant-loop g l = (b : List ℕ) × HasRead l.scanner b
