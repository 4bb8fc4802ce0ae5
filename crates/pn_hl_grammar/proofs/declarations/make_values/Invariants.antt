use Rattle.std.proofs.Common.{◌≡◌, ◌++◌, map, drop}
use Rattle.pn_tree.specs.Views.{element_of}
use Rattle.pn_spelling.specs.Parts.{child_elements, elements_among}
use Rattle.pn_spelling.specs.ReadDeclarations.{value_read}
use Rattle.pn_hl_grammar.proofs.declarations.make_values.Given as goal

abbrev pub invariant-loop-i : goal.invariant-loop-i
invariant-loop-i l = map value_read (child_elements (element_of l.view)) ≡ l.all ++ map value_read (elements_among (drop l.i (element_of l.view).kids))
