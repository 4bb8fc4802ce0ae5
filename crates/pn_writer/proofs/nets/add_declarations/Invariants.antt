use Rattle.std.proofs.Common.{◌≡◌, take}
use Rattle.pn_tree.specs.Building.{at_innermost}
use Rattle.pn_tree.specs.Copies.{with_kids}
use Rattle.pn_spelling.specs.Writing.{all_kids}
use Rattle.pn_spelling.specs.WriteNets.{declaration_label}
use Rattle.pn_writer.proofs.nets.add_declarations.Given as goal

abbrev pub invariant-loop-label : goal.invariant-loop-label
invariant-loop-label l = l.into ≡ at_innermost (with_kids (all_kids declaration_label (take l.label-index l.labels))) l.fn.into
