use Rattle.std.proofs.Common.{◌≡◌, subst}
use Rattle.pn_tree.specs.Building.{at_innermost, with_kid}
use Rattle.pn_tree.specs.declared.element.Child.TheVariants as children
use Rattle.pn_spelling.specs.WriteDeclarations.{declarations_element}
use Rattle.pn_writer.proofs.GivingLemmas.{added, entry, inside}
use Rattle.pn_writer.proofs.declarations.add_declarations_in.Goals as goal

pub begin-requires-clause-name : goal.begin-requires-clause-name
begin-requires-clause-name c = (entry _ _ _ _ _ c.requires).name

pub begin-requires-clause-depth : goal.begin-requires-clause-depth
begin-requires-clause-depth c = (entry _ _ _ _ _ c.requires).room.room

pub add_declarations-requires : goal.add_declarations-requires
add_declarations-requires c = rw c.as_slice.ensures (inside _ _ _ _ _ _ _ c.requires c.in_ok-begin.ensures)

pub returns : goal.returns
returns c =
    added _ _ _ _ _ _ _ c.requires.is_open c.in_ok-begin.ensures
    (subst (λ ds. c.add_declarations.new.into ≡ at_innermost (with_kid (children.Element (declarations_element ds))) c.begin.new.self) c.as_slice.ensures c.in_ok-add_declarations.ensures) c.end.ensures
