use Rattle.std.proofs.Common.{codes}
use Rattle.std.proofs.Common.{◌++◌}
use Rattle.pn_spelling.specs.WriteTerms.{term_element}
use Rattle.pn_spelling.specs.WriteNets.{head_kids, kids_of, number_label, label_element}
use Rattle.pn_writer.proofs.GivingLemmas.{entry, inside, front_fits, rest_fits}
use Rattle.pn_writer.proofs.objects.add_arc.Goals as goal

pub begin_arc-requires-clause-room : goal.begin_arc-requires-clause-room
begin_arc-requires-clause-room c = (entry _ _ _ _ _ c.requires).room

pub begin_arc-requires-clause-attrs : goal.begin_arc-requires-clause-attrs
begin_arc-requires-clause-attrs c = (entry _ _ _ _ _ c.requires).attrs

pub add_head-requires : goal.add_head-requires
add_head-requires c =
    let fit-0 = inside _ _ _ _ _ _ _ c.requires c.in_ok-begin_arc.ensures in
    front_fits (head_kids c.args.arc.now.head) ((kids_of (number_label (codes "inscription")) c.args.arc.now.weight) ++ (kids_of (label_element (codes "hlinscription") term_element) c.args.arc.now.inscription)) _ fit-0

pub add_optional_number-requires : goal.add_optional_number-requires
add_optional_number-requires c =
    let fit-0 = inside _ _ _ _ _ _ _ c.requires c.in_ok-begin_arc.ensures in
    let fit-1 = rest_fits (head_kids c.args.arc.now.head) ((kids_of (number_label (codes "inscription")) c.args.arc.now.weight) ++ (kids_of (label_element (codes "hlinscription") term_element) c.args.arc.now.inscription)) _ _ fit-0 c.in_ok-add_head.ensures in
    front_fits (kids_of (number_label (codes "inscription")) c.args.arc.now.weight) ((kids_of (label_element (codes "hlinscription") term_element) c.args.arc.now.inscription)) _ fit-1

pub add_optional_term-requires : goal.add_optional_term-requires
add_optional_term-requires c =
    let fit-0 = inside _ _ _ _ _ _ _ c.requires c.in_ok-begin_arc.ensures in
    let fit-1 = rest_fits (head_kids c.args.arc.now.head) ((kids_of (number_label (codes "inscription")) c.args.arc.now.weight) ++ (kids_of (label_element (codes "hlinscription") term_element) c.args.arc.now.inscription)) _ _ fit-0 c.in_ok-add_head.ensures in
    let fit-2 = rest_fits (kids_of (number_label (codes "inscription")) c.args.arc.now.weight) ((kids_of (label_element (codes "hlinscription") term_element) c.args.arc.now.inscription)) _ _ fit-1 c.in_ok-add_optional_number.ensures in
    fit-2
