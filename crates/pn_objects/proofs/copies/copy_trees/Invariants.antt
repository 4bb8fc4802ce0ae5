use Rattle.std.proofs.Common.{◌≡◌, take}
use Rattle.pn_objects.proofs.copies.copy_trees.Given as goal

abbrev pub invariant-loop-tree : goal.invariant-loop-tree
invariant-loop-tree l = l.all ≡ take l.tree-index l.trees
