use Rattle.std.proofs.Common.{◌≡◌, drop}
use Rattle.std.specs.List.{list_all}
use Rattle.pn_terms.specs.Rows.{is_in}
use Rattle.pn_terms.proofs.family.are_in.Given as goal

abbrev pub invariant-loop-sort : goal.invariant-loop-sort
invariant-loop-sort l = list_all (is_in l.decls l.family) l.sorts ≡ list_all (is_in l.decls l.family) (drop l.sort-index l.sorts)
