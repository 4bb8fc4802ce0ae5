use Rattle.std.proofs.Common.{codes}
use Rattle.std.proofs.Common.{◌++◌}
use Rattle.pn_spelling.specs.WriteSorts.{sort_element}
use Rattle.pn_spelling.specs.WriteTerms.{term_element}
use Rattle.pn_spelling.specs.WriteNets.{head_kids, kids_of, number_label, label_element}
use Rattle.pn_writer.proofs.GivingLemmas.{entry, first_of, inside, front_fits, rest_fits}
use Rattle.pn_writer.proofs.objects.add_place.Goals as goal

pub begin_with_id-requires-clause-room : goal.begin_with_id-requires-clause-room
begin_with_id-requires-clause-room c = (entry _ _ _ _ _ c.requires).room

pub begin_with_id-requires-clause-id : goal.begin_with_id-requires-clause-id
begin_with_id-requires-clause-id c = (first_of _ _ _ _ _ _ _ c.requires).value

pub add_head-requires : goal.add_head-requires
add_head-requires c =
    let fit-0 = inside _ _ _ _ _ _ _ c.requires c.in_ok-begin_with_id.ensures in
    front_fits (head_kids c.args.place.now.head) ((kids_of (number_label (codes "initialMarking")) c.args.place.now.marking) ++ ((kids_of (label_element (codes "type") sort_element) c.args.place.now.sort) ++ (kids_of (label_element (codes "hlinitialMarking") term_element) c.args.place.now.hl_marking))) _ fit-0

pub add_optional_number-requires : goal.add_optional_number-requires
add_optional_number-requires c =
    let fit-0 = inside _ _ _ _ _ _ _ c.requires c.in_ok-begin_with_id.ensures in
    let fit-1 = rest_fits (head_kids c.args.place.now.head) ((kids_of (number_label (codes "initialMarking")) c.args.place.now.marking) ++ ((kids_of (label_element (codes "type") sort_element) c.args.place.now.sort) ++ (kids_of (label_element (codes "hlinitialMarking") term_element) c.args.place.now.hl_marking))) _ _ fit-0 c.in_ok-add_head.ensures in
    front_fits (kids_of (number_label (codes "initialMarking")) c.args.place.now.marking) ((kids_of (label_element (codes "type") sort_element) c.args.place.now.sort) ++ (kids_of (label_element (codes "hlinitialMarking") term_element) c.args.place.now.hl_marking)) _ fit-1

pub add_optional_sort-requires : goal.add_optional_sort-requires
add_optional_sort-requires c =
    let fit-0 = inside _ _ _ _ _ _ _ c.requires c.in_ok-begin_with_id.ensures in
    let fit-1 = rest_fits (head_kids c.args.place.now.head) ((kids_of (number_label (codes "initialMarking")) c.args.place.now.marking) ++ ((kids_of (label_element (codes "type") sort_element) c.args.place.now.sort) ++ (kids_of (label_element (codes "hlinitialMarking") term_element) c.args.place.now.hl_marking))) _ _ fit-0 c.in_ok-add_head.ensures in
    let fit-2 = rest_fits (kids_of (number_label (codes "initialMarking")) c.args.place.now.marking) ((kids_of (label_element (codes "type") sort_element) c.args.place.now.sort) ++ (kids_of (label_element (codes "hlinitialMarking") term_element) c.args.place.now.hl_marking)) _ _ fit-1 c.in_ok-add_optional_number.ensures in
    front_fits (kids_of (label_element (codes "type") sort_element) c.args.place.now.sort) ((kids_of (label_element (codes "hlinitialMarking") term_element) c.args.place.now.hl_marking)) _ fit-2

pub add_optional_term-requires : goal.add_optional_term-requires
add_optional_term-requires c =
    let fit-0 = inside _ _ _ _ _ _ _ c.requires c.in_ok-begin_with_id.ensures in
    let fit-1 = rest_fits (head_kids c.args.place.now.head) ((kids_of (number_label (codes "initialMarking")) c.args.place.now.marking) ++ ((kids_of (label_element (codes "type") sort_element) c.args.place.now.sort) ++ (kids_of (label_element (codes "hlinitialMarking") term_element) c.args.place.now.hl_marking))) _ _ fit-0 c.in_ok-add_head.ensures in
    let fit-2 = rest_fits (kids_of (number_label (codes "initialMarking")) c.args.place.now.marking) ((kids_of (label_element (codes "type") sort_element) c.args.place.now.sort) ++ (kids_of (label_element (codes "hlinitialMarking") term_element) c.args.place.now.hl_marking)) _ _ fit-1 c.in_ok-add_optional_number.ensures in
    let fit-3 = rest_fits (kids_of (label_element (codes "type") sort_element) c.args.place.now.sort) ((kids_of (label_element (codes "hlinitialMarking") term_element) c.args.place.now.hl_marking)) _ _ fit-2 c.in_ok-add_optional_sort.ensures in
    fit-3
