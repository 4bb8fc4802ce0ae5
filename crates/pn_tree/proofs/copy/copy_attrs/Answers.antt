use Rattle.pn_tree.specs.Views.{element_of}
use Rattle.pn_tree.proofs.CopyLemmas.{attr_valid, ready, attrs_more}
use Rattle.pn_tree.proofs.TreeLemmas.{parts_of}
use Rattle.pn_tree.proofs.copy.copy_attrs.Goals as goal

pub attr-requires-in-loop-i-clause-name : goal.attr-requires-in-loop-i-clause-name
unfolding element_of
attr-requires-in-loop-i-clause-name c =
    (attr_valid (element_of c.args.part).attrs c.loop-i.i _ c.attr.ensures (parts_of 255 (element_of c.args.part) c.args.part.is_tree.is_tree).attrs).name

pub attr-requires-in-loop-i-clause-value : goal.attr-requires-in-loop-i-clause-value
unfolding element_of
attr-requires-in-loop-i-clause-value c =
    (attr_valid (element_of c.args.part).attrs c.loop-i.i _ c.attr.ensures (parts_of 255 (element_of c.args.part) c.args.part.is_tree.is_tree).attrs).value

pub attr-requires-in-loop-i-clause-is_new : goal.attr-requires-in-loop-i-clause-is_new
unfolding element_of
attr-requires-in-loop-i-clause-is_new c =
    (ready c.args.builder.now c.loop-i.builder (element_of c.args.part).attrs c.loop-i.i _ c.loop-i.invariant c.requires
    (attr_valid (element_of c.args.part).attrs c.loop-i.i _ c.attr.ensures (parts_of 255 (element_of c.args.part) c.args.part.is_tree.is_tree).attrs)).new

pub loop-i-preserved : goal.loop-i-preserved
loop-i-preserved c =
    attrs_more c.args.builder.now c.loop-i.builder c.attr-in-loop-i.new.self (element_of c.args.part).attrs c.loop-i.i _ c.loop-i.invariant c.in_ok-attr.ensures c.attr.ensures
