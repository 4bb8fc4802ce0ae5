use Rattle.std.proofs.Common.{[], ◌∷◌, codes, refl, sym, ap, ◌∙◌, subst}
use Rattle.pn_tree.specs.declared.element.Child.TheVariants as children
use Rattle.pn_tree.proofs.TreeLemmas.{parts_of}
use Rattle.pn_spelling.specs.Writing.{made}
use Rattle.pn_spelling.specs.WriteNets.{net_element, root_attrs, tree_of_net}
use Rattle.pn_writer.specs.Giving.{MayTake, opened}
use Rattle.pn_writer.proofs.nets.build.Goals as goal

pub begin_root-requires-clause-attrs : goal.begin_root-requires-clause-attrs
begin_root-requires-clause-attrs c = rw c.as_slice.ensures (parts_of 255 (tree_of_net c.args.net.now) c.requires.is_writable.tree).attrs

pub add_net-requires : goal.add_net-requires
add_net-requires c =
    let begun_at = c.in_ok-begin_root.ensures ∙ ap (opened (made (codes "pnml") (root_attrs c.as_slice.result.now) [])) c.requires.is_new in
    subst (MayTake (children.Element (net_element c.args.net.now) ∷ [])) (sym begun_at)
    (record { unended = refl; is_open = refl; fit = (parts_of 255 (tree_of_net c.args.net.now) c.requires.is_writable.tree).kids })
