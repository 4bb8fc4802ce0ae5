use Rattle.std.specs.Option.{option_map}
use Rattle.pn_tree.specs.Views.{element_of}
use Rattle.pn_hl_grammar.proofs.SplitLemmas.{IsSplit}
use Rattle.pn_hl_grammar.proofs.declarations.split_partition.Given as goal

abbrev pub invariant-loop-i : goal.invariant-loop-i
invariant-loop-i l = IsSplit (element_of l.view) l.i l.fn.elements l.elements (option_map element_of l.base)
