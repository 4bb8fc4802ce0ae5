use Rattle.std.proofs.Common.{◌≡◌, take}
use Rattle.pn_tree.specs.Building.{at_innermost}
use Rattle.pn_tree.specs.Copies.{with_kids}
use Rattle.pn_spelling.specs.Writing.{all_kids}
use Rattle.pn_spelling.specs.WriteNets.{place_element}
use Rattle.pn_writer.proofs.objects.add_places.Given as goal

abbrev pub invariant-loop-place : goal.invariant-loop-place
invariant-loop-place l = l.into ≡ at_innermost (with_kids (all_kids place_element (take l.place-index l.places))) l.fn.into
