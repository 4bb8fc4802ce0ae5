use Rattle.std.proofs.Common.{length, ap, arith}
use Rattle.pn_tree.specs.Building.{Building}
use Rattle.pn_tree.specs.Views.{element_of}
use Rattle.pn_tree.proofs.DepthLemmas.{depth_within}
use Rattle.pn_tree.proofs.view.View.copy.Goals as goal

pub copy_element-requires : goal.copy_element-requires
unfolding element_of
copy_element-requires c =
    omega (arith, ap (λ (b : Building). length b.open_elements) c.new-builder.ensures, depth_within 256 (element_of c.args.self) c.args.self.is_tree.is_tree)
