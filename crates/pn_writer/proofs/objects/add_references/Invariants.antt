use Rattle.std.proofs.Common.{◌≡◌, take}
use Rattle.pn_tree.specs.Building.{at_innermost}
use Rattle.pn_tree.specs.Copies.{with_kids}
use Rattle.pn_spelling.specs.Writing.{all_kids}
use Rattle.pn_spelling.specs.WriteNets.{reference_element}
use Rattle.pn_writer.proofs.objects.add_references.Given as goal

abbrev pub invariant-loop-reference : goal.invariant-loop-reference
invariant-loop-reference l = l.into ≡ at_innermost (with_kids (all_kids (reference_element l.name) (take l.reference-index l.references))) l.fn.into
