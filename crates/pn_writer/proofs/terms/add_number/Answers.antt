use Rattle.std.proofs.Common.{◌≡◌, [], sym, subst}
use Rattle.pn_spelling.specs.Writing.{made}
use Rattle.pn_tree.specs.Building.{at_innermost, with_kid}
use Rattle.pn_tree.specs.declared.element.Child.TheVariants as children
use Rattle.pn_writer.specs.Giving.{MayTakeElement}
use Rattle.pn_writer.proofs.GivingLemmas.{added, entry, first_of, inside}
use Rattle.pn_writer.proofs.terms.add_number.Goals as goal

pub begin_number-requires-clause-room : goal.begin_number-requires-clause-room
begin_number-requires-clause-room c = (entry _ _ _ _ _ c.requires).room

pub begin_number-requires-clause-value : goal.begin_number-requires-clause-value
begin_number-requires-clause-value c = (first_of _ _ _ _ _ _ _ c.requires).value

pub add_leaf-requires : goal.add_leaf-requires
add_leaf-requires c = subst (λ n. MayTakeElement (made n [] []) c.begin_number.new.into) (sym c.number_sort_element.ensures) (inside _ _ _ _ _ _ _ c.requires c.in_ok-begin_number.ensures)

pub returns : goal.returns
returns c =
    added _ _ _ _ _ _ _ c.requires.is_open c.in_ok-begin_number.ensures
    (subst (λ n. c.add_leaf.new.into ≡ at_innermost (with_kid (children.Element (made n [] []))) c.begin_number.new.into) c.number_sort_element.ensures c.in_ok-add_leaf.ensures) c.end.ensures
