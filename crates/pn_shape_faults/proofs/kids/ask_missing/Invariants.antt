use Rattle.std.proofs.Common.{drop}
use Rattle.pn_tree.specs.Views.{element_of}
use Rattle.pn_shape_faults.specs.Keeping.{Goes}
use Rattle.pn_shape.specs.Faults.{missing_faults}
use Rattle.pn_shape_faults.proofs.kids.ask_missing.Given as goal

abbrev pub invariant-loop-i : goal.invariant-loop-i
invariant-loop-i l =
    let e = element_of l.view in
    Goes l.initial.least l.least (missing_faults l.kind l.slots e 0 l.slots) (missing_faults l.kind l.slots e l.i (drop l.i l.slots))
