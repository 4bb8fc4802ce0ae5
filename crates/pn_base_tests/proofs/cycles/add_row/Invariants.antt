use Rattle.std.proofs.Common.{◌<◌, length}
use Rattle.pn_base_tests.proofs.cycles.add_row.Given as goal

abbrev pub invariant-loop-end : goal.invariant-loop-end
invariant-loop-end l = 0 < length l.graph
