use Rattle.std.proofs.Common.{◌≡◌, map, take}
use Rattle.pn_marked.specs.Ground.{sort_written}
use Rattle.pn_marked.proofs.sorts.+node_written.Given as goal

abbrev pub invariant-all_written-loop-sort : goal.invariant-all_written-loop-sort
invariant-all_written-loop-sort l = l.all ≡ map (sort_written l.decls) (take l.sort-index l.sorts)
