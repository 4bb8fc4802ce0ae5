use Rattle.std.proofs.Common.{◌≡◌, drop}
use Rattle.std.specs.List.{find}
use Rattle.pn_tree.specs.Views.{element_of}
use Rattle.pn_spelling.specs.Parts.{child_named, elements_among, has_name}
use Rattle.pn_checks.proofs.told.child_called.Given as goal

abbrev pub invariant-loop-i : goal.invariant-loop-i
invariant-loop-i l = child_named l.name (element_of l.view) ≡ find (has_name l.name) (elements_among (drop l.i (element_of l.view).kids))
