use Rattle.std.proofs.Common.{◌≤◌, sym, subst}
use Rattle.pn_tree.specs.Depth.{depth_of}
use Rattle.pn_tree.proofs.DepthLemmas.{depth_within}
use Rattle.pn_tree.proofs.tree.Tree.root.Goals as goal

pub returns-clause-depth : goal.returns-clause-depth
returns-clause-depth c = subst (λ e. depth_of e ≤ 256) (sym c.new.ensures) (depth_within 256 _ c.self.invariant.is_tree)
