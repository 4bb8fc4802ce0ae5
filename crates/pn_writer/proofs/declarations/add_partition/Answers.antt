use Rattle.std.proofs.Common.{[], ◌∷◌}
use Rattle.pn_tree.specs.declared.element.Child.TheVariants as children
use Rattle.pn_spelling.specs.Writing.{all_kids}
use Rattle.pn_spelling.specs.WriteDeclarations.{part_element}
use Rattle.pn_spelling.specs.WriteSorts.{sort_element}
use Rattle.pn_writer.proofs.GivingLemmas.{entry, inside, front_fits, rest_fits}
use Rattle.pn_writer.proofs.declarations.add_partition.Goals as goal

pub begin_named-requires-clause-room : goal.begin_named-requires-clause-room
begin_named-requires-clause-room c = (entry _ _ _ _ _ c.requires).room

pub begin_named-requires-clause-attrs : goal.begin_named-requires-clause-attrs
begin_named-requires-clause-attrs c = (entry _ _ _ _ _ c.requires).attrs

pub add_sort-requires : goal.add_sort-requires
add_sort-requires c = front_fits (children.Element (sort_element c.args.sort.now) ∷ []) (all_kids part_element c.args.elements.now) _ (inside _ _ _ _ _ _ _ c.requires c.in_ok-begin_named.ensures)

pub add_elements-requires : goal.add_elements-requires
add_elements-requires c =
    rest_fits (children.Element (sort_element c.args.sort.now) ∷ []) (all_kids part_element c.args.elements.now) _ _ (inside _ _ _ _ _ _ _ c.requires c.in_ok-begin_named.ensures) c.in_ok-add_sort.ensures
