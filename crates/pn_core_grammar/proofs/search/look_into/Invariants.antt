use Rattle.std.proofs.Common.{take}
use Rattle.pn_tree.specs.Views.{element_of}
use Rattle.pn_spelling.specs.Parts.{elements_among}
use Rattle.pn_core_grammar.specs.Inside.{AreFoundAmong}
use Rattle.pn_core_grammar.proofs.search.look_into.Given as goal

abbrev pub invariant-loop-i : goal.invariant-loop-i
invariant-loop-i l = AreFoundAmong (elements_among (take l.i (element_of l.view).kids)) l.inside
