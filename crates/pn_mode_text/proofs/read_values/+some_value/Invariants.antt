use Rattle.std.proofs.Common.{length}
use Rattle.pn_mode_text.proofs.ItemReadings.{AreItemsReadUpTo}
use Rattle.pn_mode_text.proofs.PartReadings.{ArePartsReadUpTo}
use Rattle.pn_mode_text.proofs.read_values.+some_value.Given as goal

abbrev pub invariant-each_part-loop-i : goal.invariant-each_part-loop-i
invariant-each_part-loop-i l = ArePartsReadUpTo l.decls l.parts l.bytes l.i l.values l.rest

abbrev pub invariant-each_item-loop-goes_on : goal.invariant-each_item-loop-goes_on
invariant-each_item-loop-goes_on l = AreItemsReadUpTo l.decls l.item l.bytes l.goes_on l.values l.rest

abbrev pub decreases-each_item-loop-goes_on : goal.decreases-each_item-loop-goes_on
decreases-each_item-loop-goes_on l = length l.rest
