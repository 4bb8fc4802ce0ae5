use Rattle.std.proofs.Common.{codes}
use Rattle.pn_spelling.specs.WriteTerms.{term_element}
use Rattle.pn_spelling.specs.WriteNets.{head_kids, kids_of, label_element}
use Rattle.pn_writer.proofs.GivingLemmas.{entry, first_of, inside, front_fits, rest_fits}
use Rattle.pn_writer.proofs.objects.add_transition.Goals as goal

pub begin_with_id-requires-clause-room : goal.begin_with_id-requires-clause-room
begin_with_id-requires-clause-room c = (entry _ _ _ _ _ c.requires).room

pub begin_with_id-requires-clause-id : goal.begin_with_id-requires-clause-id
begin_with_id-requires-clause-id c = (first_of _ _ _ _ _ _ _ c.requires).value

pub add_head-requires : goal.add_head-requires
add_head-requires c =
    let fit-0 = inside _ _ _ _ _ _ _ c.requires c.in_ok-begin_with_id.ensures in
    front_fits (head_kids c.args.transition.now.head) ((kids_of (label_element (codes "condition") term_element) c.args.transition.now.condition)) _ fit-0

pub add_optional_term-requires : goal.add_optional_term-requires
add_optional_term-requires c =
    let fit-0 = inside _ _ _ _ _ _ _ c.requires c.in_ok-begin_with_id.ensures in
    let fit-1 = rest_fits (head_kids c.args.transition.now.head) ((kids_of (label_element (codes "condition") term_element) c.args.transition.now.condition)) _ _ fit-0 c.in_ok-add_head.ensures in
    fit-1
