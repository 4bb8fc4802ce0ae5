use Rattle.std.proofs.Common.{◌≡◌, map, take}
use Rattle.pn_terms.specs.Rows.{basis_of}
use Rattle.pn_terms.proofs.rules.bases.Given as goal

abbrev pub invariant-loop-sort : goal.invariant-loop-sort
invariant-loop-sort l = l.all ≡ map basis_of (take l.sort-index l.sorts)
