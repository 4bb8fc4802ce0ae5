use Rattle.std.proofs.Common.{◌≡◌, take}
use Rattle.pn_tree.specs.Building.{at_innermost}
use Rattle.pn_tree.specs.Copies.{with_kids}
use Rattle.pn_spelling.specs.Writing.{all_kids}
use Rattle.pn_spelling.specs.WriteSorts.{sort_element}
use Rattle.pn_writer.proofs.sorts.+add_sort.Given as goal

abbrev pub invariant-add_sorts-loop-part : goal.invariant-add_sorts-loop-part
invariant-add_sorts-loop-part l = l.into ≡ at_innermost (with_kids (all_kids sort_element (take l.part-index l.parts))) l.fn.into
