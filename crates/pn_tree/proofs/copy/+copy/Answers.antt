use Rattle.std.proofs.Common.{◌<◌, ap, ◌∙◌, arith, take}
use Rattle.pn_text.specs.Characters.{is_name}
use Rattle.pn_tree.specs.Copies.{with_kids}
use Rattle.pn_tree.specs.Depth.{depth_of}
use Rattle.pn_tree.specs.Walks.{kid_size}
use Rattle.pn_tree.specs.Views.{element_of}
use Rattle.pn_tree.proofs.CopyLemmas.{kids_more, kid_open, fits, size_less}
use Rattle.pn_tree.proofs.DepthLemmas.{some_levels}
use Rattle.pn_tree.proofs.TreeLemmas.{parts_of}
use Rattle.pn_tree.proofs.copy.+copy.Goals as goal

pub copy_element-begin_next-requires-clause-name : goal.copy_element-begin_next-requires-clause-name
unfolding element_of
copy_element-begin_next-requires-clause-name t c = ap is_name c.name.ensures ∙ (parts_of 255 (element_of c.args.part) c.args.part.is_tree.is_tree).name

pub copy_element-begin_next-requires-clause-depth : goal.copy_element-begin_next-requires-clause-depth
copy_element-begin_next-requires-clause-depth t c = omega (arith, some_levels (element_of c.args.part), c.requires)

pub copy_kids-copy_kid-requires : goal.copy_kids-copy_kid-requires
unfolding element_of
copy_kids-copy_kid-requires t c =
    let e = element_of c.args.part in
    let less : kid_size c.kid.result < t = omega (arith, size_less c.kid.result (depth_of e) c.kid.ensures.depth, c.decreases) in (
      less,
      (
        kid_open c.args.builder.now c.loop-i.builder (with_kids (take c.loop-i.i e.kids)) c.loop-i.invariant c.requires.is_open,
        fits c.args.builder.now c.loop-i.builder (with_kids (take c.loop-i.i e.kids)) e c.kid.result c.loop-i.i c.loop-i.invariant c.args.part.is_tree.is_tree c.kid.ensures.kid
            c.kid.ensures.depth c.requires.depth,
      ),
    )

pub copy_kids-loop-i-preserved : goal.copy_kids-loop-i-preserved
unfolding element_of
copy_kids-loop-i-preserved t c =
    kids_more c.args.builder.now c.loop-i.builder c.copy_kid.new.builder (element_of c.args.part) c.loop-i.i c.kid.result c.args.part.is_tree.is_tree c.loop-i.invariant
    c.in_ok-copy_kid.ensures c.requires.is_open c.kid.ensures.kid
