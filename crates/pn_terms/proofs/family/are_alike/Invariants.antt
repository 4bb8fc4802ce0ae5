use Rattle.std.proofs.Common.{◌≡◌, take}
use Rattle.std.specs.List.{Contains}
use Rattle.pn_terms.specs.declared.term_sort.TermSort.{TermSort}
use Rattle.pn_terms.specs.Rows.{first_of}
use Rattle.pn_terms.proofs.family.are_alike.Given as goal

abbrev pub invariant-loop-sort : goal.invariant-loop-sort
invariant-loop-sort l = (t : TermSort) → Contains (take l.sort-index l.sorts) t → t ≡ first_of l.sorts
