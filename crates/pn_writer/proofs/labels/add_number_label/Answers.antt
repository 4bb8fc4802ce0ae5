use Rattle.std.proofs.Common.{[], ◌∷◌, map, decimal, ◌≡◌, subst}
use Rattle.pn_tree.specs.Building.{at_innermost, with_kid}
use Rattle.pn_tree.specs.declared.element.Child.TheVariants as children
use Rattle.pn_spelling.specs.Writing.{text_element}
use Rattle.pn_writer.proofs.GivingLemmas.{entry, first_kids_fit, other_kids_fit}
use Rattle.pn_writer.proofs.labels.add_number_label.Goals as goal

pub begin-requires-clause-name : goal.begin-requires-clause-name
begin-requires-clause-name c = (entry _ _ _ _ _ c.requires).name

pub begin-requires-clause-depth : goal.begin-requires-clause-depth
begin-requires-clause-depth c = (entry _ _ _ _ _ c.requires).room.room

pub add_text-requires : goal.add_text-requires
add_text-requires c = rw c.format.ensures.text
    (first_kids_fit _ _ (children.Element (text_element (decimal c.args.label.now.value)) ∷ []) (map children.Element c.args.label.now.opaque) _ _ _ _ c.requires c.in_ok-begin.ensures)

pub add_opaque-requires : goal.add_opaque-requires
add_opaque-requires c =
    other_kids_fit _ _ (children.Element (text_element (decimal c.args.label.now.value)) ∷ []) (map children.Element c.args.label.now.opaque) _ _ _ _ _ c.requires c.in_ok-begin.ensures
    (subst (λ t. c.add_text.new.into ≡ at_innermost (with_kid (children.Element (text_element t))) c.begin.new.self) c.format.ensures.text c.in_ok-add_text.ensures)
