use Rattle.std.proofs.Common.{◌≡◌, map, take}
use Rattle.std.specs.List.{filter}
use Rattle.pn_tree.specs.Views.{element_of}
use Rattle.pn_spelling.specs.ReadNets.{is_prefix, prefix_read}
use Rattle.pn_core_grammar.proofs.net.make_prefixes.Given as goal

abbrev pub invariant-loop-i : goal.invariant-loop-i
invariant-loop-i l = l.all ≡ map prefix_read (filter is_prefix (take l.i (element_of l.root).attrs))
