use Rattle.std.proofs.Common.{◌≡◌, ◌++◌, subst}
use Rattle.pn_tree.specs.Building.{at_innermost}
use Rattle.pn_tree.specs.Copies.{with_kids}
use Rattle.pn_spelling.specs.Writing.{all_kids}
use Rattle.pn_spelling.specs.WriteNets.{head_kids, declaration_label, page_element}
use Rattle.pn_writer.proofs.GivingLemmas.{entry, inside, front_fits, rest_fits}
use Rattle.pn_writer.proofs.nets.add_net.Goals as goal

pub begin_net-requires-clause-room : goal.begin_net-requires-clause-room
begin_net-requires-clause-room c = (entry _ _ _ _ _ c.requires).room

pub begin_net-requires-clause-attrs : goal.begin_net-requires-clause-attrs
begin_net-requires-clause-attrs c = (entry _ _ _ _ _ c.requires).attrs

pub add_head-requires : goal.add_head-requires
add_head-requires c =
    let declared = all_kids declaration_label c.args.net.now.declarations in
    let pages = all_kids page_element c.args.net.now.pages in
    front_fits (head_kids c.args.net.now.head) (declared ++ pages) _ (inside _ _ _ _ _ _ _ c.requires c.in_ok-begin_net.ensures)

pub add_declarations-requires : goal.add_declarations-requires
add_declarations-requires c =
    let declared = all_kids declaration_label c.args.net.now.declarations in
    let pages = all_kids page_element c.args.net.now.pages in
    let behind = rest_fits (head_kids c.args.net.now.head) (declared ++ pages) _ _ (inside _ _ _ _ _ _ _ c.requires c.in_ok-begin_net.ensures) c.in_ok-add_head.ensures in
    rw c.as_slice.ensures (front_fits declared pages _ behind)

pub add_pages-requires : goal.add_pages-requires
add_pages-requires c =
    let declared = all_kids declaration_label c.args.net.now.declarations in
    let pages = all_kids page_element c.args.net.now.pages in
    let behind = rest_fits (head_kids c.args.net.now.head) (declared ++ pages) _ _ (inside _ _ _ _ _ _ _ c.requires c.in_ok-begin_net.ensures) c.in_ok-add_head.ensures in
    let given = subst (λ ls. c.add_declarations.new.into ≡ at_innermost (with_kids (all_kids declaration_label ls)) c.add_head.new.into) c.as_slice.ensures c.in_ok-add_declarations.ensures in
    rw c.as_slice-2.ensures (rest_fits declared pages _ _ behind given)
