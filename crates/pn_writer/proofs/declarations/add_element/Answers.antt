use Rattle.std.proofs.Common.{◌≡◌, subst}
use Rattle.pn_tree.specs.Building.{at_innermost}
use Rattle.pn_tree.specs.Copies.{with_kids}
use Rattle.pn_spelling.specs.Writing.{all_kids}
use Rattle.pn_spelling.specs.WriteDeclarations.{value_element}
use Rattle.pn_writer.proofs.GivingLemmas.{added, entry, inside}
use Rattle.pn_writer.proofs.declarations.add_element.Goals as goal

pub begin_named-requires-clause-room : goal.begin_named-requires-clause-room
begin_named-requires-clause-room c = (entry _ _ _ _ _ c.requires).room

pub begin_named-requires-clause-attrs : goal.begin_named-requires-clause-attrs
begin_named-requires-clause-attrs c = (entry _ _ _ _ _ c.requires).attrs

pub add_values-requires : goal.add_values-requires
add_values-requires c = rw c.as_slice.ensures (inside _ _ _ _ _ _ _ c.requires c.in_ok-begin_named.ensures)

pub returns : goal.returns
returns c =
    added _ _ _ _ _ _ _ c.requires.is_open c.in_ok-begin_named.ensures
    (subst (λ vs. c.add_values.new.into ≡ at_innermost (with_kids (all_kids value_element vs)) c.begin_named.new.into) c.as_slice.ensures c.in_ok-add_values.ensures) c.end.ensures
