use Rattle.std.proofs.Common.{◌≡◌, drop}
use Rattle.pn_operators.specs.Rows.{found_in}
use Rattle.pn_operators.proofs.search.first_found.Given as goal

abbrev pub invariant-loop-row : goal.invariant-loop-row
invariant-loop-row l = found_in l.name l.kind l.rows ≡ found_in l.name l.kind (drop l.row-index l.rows)
